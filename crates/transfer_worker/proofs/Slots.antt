-- The step of a job's slot is that of a turn which has what the job's step reads.
use Rattle.std.proofs.Common.{◌≡◌, ℕ, Bool, true, false, Option, Some, None, refl, sym, ap, subst, ◌∙◌}
use Rattle.std.specs.Prelude.{if◌then◌else◌}
use Rattle.std.specs.List.{list_all}
use Rattle.annex_base.specs.declared.kinds.Call.{Call}
use Rattle.run_data.specs.declared.entry.FrameView.{FrameView}
use Rattle.object_store.specs.Stores.{Contents}
use Rattle.node_model.specs.Jobs.{Work, job_end, partner}
use Rattle.node_model.specs.JobStep.{Turn, end_with, quietly, talk, turn_of}
use Rattle.node_model.specs.Knows.{reading}
use Rattle.node_model.specs.Look.{Look, waiting_frame}
use Rattle.node_model.specs.SetUp.{SetUp}
use Rattle.node_model.specs.State.{State}
use Rattle.node_model.specs.Turns.{awaits, by_partner, goes, goes_on, has_room, is_awaiting, needs, takes_frame, with_partner}
use Rattle.content_lock.specs.Rows.{Rows}
use Rattle.session_state.specs.declared.incoming.Incoming.{Incoming}
use Rattle.transfer_turns.specs.Turns.{Sight, awaited, goes_on_with, step_at, turn_in}
use Rattle.transfer_worker.specs.States.{FindsAt, HasWay, Sees}

-- the turn of the state is one that has what the step reads
pub turn_same : (x : Sight) (rows : Rows) (c : Contents) (v : Work) (i : Option Incoming) (fails : Option Call) (sees : ℕ → Bool → Type 0) (s : SetUp) (st : State) (k : Look) (f : Option FrameView)
    → Sees x rows c v i fails sees s st k f → turn_in x rows c k.part k.right fails (turn_of s st k v) v ≡ turn_of s st k v
turn_same x rows c v i fails sees s st k f z = λ j.
    record {
      read = record (reading s st v) { repo = z.sight.repo j; count = z.sight.count j };
      clock = st.clock;
      number = (turn_of s st k v).number;
      present = λ key. z.keeps.present key j;
      bar = λ key. z.keeps.bar key j;
      content = λ key. z.keeps.sizes key j;
      holds = z.keeps.holds j;
      filled = λ key. z.keeps.filled key j;
      ends = z.sight.ends j;
      look = record k { fails = sym z.failing j };
      w = v;
    }

-- ---- the step of the slot

goes_where : (t : Turn) → list_all (has_room t) (needs t t.w.phase) ≡ true → goes_on t ≡ Some (goes t t.w.phase)
goes_where t room = rw room refl

-- the frame that waits for it at the end of its connection with a peer
abbrev waiting : Turn → ℕ → Option FrameView
waiting t peer = waiting_frame (end_with t peer) t.look (job_end t.w peer)

-- it awaits a frame of this peer, on a connection that is open or isn't
awaiting : (t : Turn) (peer : ℕ) (f : Option FrameView) → is_awaiting t.w.phase ≡ true → FindsAt t (Some peer) f → ((g : FrameView) → f ≡ Some g → (end_with t peer).opened ≡ true)
    → with_partner t peer (end_with t peer).opened ≡ Some (step_at (Some peer) f t)
awaiting t peer None waits finds live = ap (with_partner t peer) finds
awaiting t peer (Some f) waits finds live =
    ap (with_partner t peer) (live f refl) ∙ (ap (λ (b : Bool). if b then awaits t peer (waiting t peer) else goes_on t) waits ∙ (ap (awaits t peer) finds.0 ∙ ap (λ (b : Bool). if b then Some (takes_frame t peer f f.body) else None) finds.1))

-- it sends bytes on a connection that is open, or isn't
sending : (t : Turn) (peer : ℕ) (way : Bool) → is_awaiting t.w.phase ≡ false → (end_with t peer).opened ≡ way → (way ≡ true → list_all (has_room t) (needs t t.w.phase) ≡ true)
    → with_partner t peer way ≡ Some (goes_on_with t (Some peer))
sending t peer false gives shut room = ap (λ (b : Bool). Some (if b then goes t t.w.phase else quietly (talk t) None)) (sym shut)
sending t peer true gives live room =
    ap (λ (b : Bool). if b then awaits t peer (waiting t peer) else goes_on t) gives ∙ (goes_where t (room refl) ∙ ap (λ (b : Bool). Some (if b then goes t t.w.phase else quietly (talk t) None)) (sym live))

by_way : (t : Turn) (o : Option ℕ) (b : Bool) (f : Option FrameView) → partner t.w.what.peer t.w.phase ≡ o → is_awaiting t.w.phase ≡ b → FindsAt t (if b then o else None) f
    → ((peer : ℕ) (g : FrameView) → (if b then o else None) ≡ Some peer → f ≡ Some g → (end_with t peer).opened ≡ true) → by_partner t o ≡ Some (step_at (if b then o else None) f t)
by_way t None true f at waits finds live = goes_where t (subst (HasWay t) at finds) ∙ ap (λ (p : Option ℕ). Some (goes_on_with t p)) (sym at)
by_way t None false f at waits finds live = goes_where t (subst (HasWay t) at finds) ∙ ap (λ (p : Option ℕ). Some (goes_on_with t p)) (sym at)
by_way t (Some peer) true f at waits finds live = awaiting t peer f waits finds (λ g is. live peer g refl is)
by_way t (Some peer) false f at waits finds live = sending t peer (end_with t peer).opened waits refl (subst (HasWay t) at finds) ∙ ap (λ (p : Option ℕ). Some (goes_on_with t p)) (sym at)

pub slot_is : (t : Turn) (f : Option FrameView) → FindsAt t (awaited t.w) f → ((peer : ℕ) (g : FrameView) → awaited t.w ≡ Some peer → f ≡ Some g → (end_with t peer).opened ≡ true)
    → by_partner t (partner t.w.what.peer t.w.phase) ≡ Some (step_at (awaited t.w) f t)
slot_is t f finds live = by_way t (partner t.w.what.peer t.w.phase) (is_awaiting t.w.phase) f refl refl finds live
