-- What a drop hears by the frame that it takes, as its list has it.
use Rattle.std.proofs.Common.{◌≡◌, ℕ, Bool, true, false, List, ◌∷◌, Option, Some, None, inr, refl, sym, ap, ◌∙◌, subst}
use Rattle.std.specs.Prelude.{if◌then◌else◌}
use Rattle.std.specs.List.{list_all}
use Rattle.run_data.specs.declared.entry.FrameView.{FrameView}
use Rattle.run_data.specs.declared.entry.FrameText.{FrameText}
use Rattle.run_data.specs.declared.entry.FrameText.TheVariants.{Opening, Closing, Bytes, Line}
use Rattle.p2p_wire.specs.declared.message.Message.{Message}
use Rattle.p2p_wire.specs.declared.message.Message.TheVariants.{Success}
use Rattle.node_model.specs.Sessions.{line_in}
use Rattle.node_model.specs.Ends.{EndName, End, end_after, end_takes, end_took}
use Rattle.node_model.specs.Jobs.{Drops, Part, Phase, AsksLock, AsksLook, Held, Seen, Heard, Work, closed_part, job_end, listens, partner, talks_on, after_frame}
use Rattle.node_model.specs.Look.{Effect, waiting_frame}
use Rattle.node_model.specs.JobStep.{Turn, end_with, hears, me, quietly, talk}
use Rattle.node_model.specs.Turns.{awaits, goes, goes_on, has_room, is_awaiting, needs, takes, takes_answer, takes_frame, takes_text, with_partner}
use Rattle.step_facts.proofs.JobFacts.{frame_found, goes_found}
use Rattle.step_facts.proofs.ClientTurns.{made_entry, moved, rows_of, talker, talker_phase, talker_slot}
use Rattle.step_facts.proofs.ClientLeaves.{Taking}
use Rattle.job_facts.proofs.HeardLists.{talker_heard}
use Rattle.std.proofs.lemmas.Option.{same_Some}
use Rattle.step_facts.proofs.ClientSteps.{took_listens}

-- ---- the step that takes a frame

-- a step that takes a frame is the taking of that frame, on the open connection of the partner
pub took_as : (t : Turn) (m : Effect) (peer : ℕ) → partner t.w.what.peer t.w.phase ≡ Some peer → (b : Bool) → with_partner t peer b ≡ Some m → (f : FrameView) → m.taken ≡ Some f
    → m ≡ takes_frame t peer f f.body
took_as t m peer on false e f took = let same : quietly (talk t) None ≡ m = cc in absurd (let bad : None ≡ Some f = ap (λ (x : Effect). x.taken) same ∙ took in cc)
took_as t m peer on true e f took = go (is_awaiting t.w.phase) refl e
  where
    takes_it : (o : Option FrameView) → awaits t peer o ≡ Some m → m ≡ takes_frame t peer f f.body
    takes_it None g = absurd (cc)
    takes_it (Some h) g = room (has_room t peer) g
      where
        room : (c : Bool) → (if c then Some (takes_frame t peer h h.body) else None) ≡ Some m → m ≡ takes_frame t peer f f.body
        room false k = absurd (cc)
        room true k =
            let made : takes_frame t peer h h.body ≡ m = cc in
            let one : Some h ≡ Some f = sym (frame_found t peer h on h.body refl).0 ∙ (ap (λ (x : Effect). x.taken) made ∙ took) in
            sym made ∙ ap (λ (x : FrameView). takes_frame t peer x x.body) (same_Some h f one)

    go : (c : Bool) → is_awaiting t.w.phase ≡ c → (if c then awaits t peer (waiting_frame (end_with t peer) t.look (job_end t.w peer)) else goes_on t) ≡ Some m → m ≡ takes_frame t peer f f.body
    go true awaiting g = takes_it (waiting_frame (end_with t peer) t.look (job_end t.w peer)) g
    go false idle g = room (list_all (has_room t) (needs t t.w.phase)) g
      where
        room : (c : Bool) → (if c then Some (goes t t.w.phase) else None) ≡ Some m → m ≡ takes_frame t peer f f.body
        room false k = absurd (cc)
        room true k =
            let made : goes t t.w.phase ≡ m = cc in
            absurd (let bad : None ≡ Some f = sym (goes_found t t.w.phase refl (inr idle)).0 ∙ (ap (λ (x : Effect). x.taken) made ∙ took) in cc)

-- the taking of a message by a drop
pub takes_line : (t : Turn) (peer : ℕ) (f : FrameView) (m : Message) (phase : Phase) → t.w.phase ≡ phase → line_in f.body ≡ Some m → takes_frame t peer f f.body ≡ takes t f peer phase m
takes_line t peer f m phase is told = go f.body told
  where
    go : (body : FrameText) → line_in body ≡ Some m → takes_frame t peer f body ≡ takes t f peer phase m
    go (Line text) e = ap (takes_text t f peer) e ∙ ap (λ (p : Phase). takes t f peer p m) is
    go Opening e = absurd (cc)
    go Closing e = absurd (cc)
    go (Bytes n) e = absurd (cc)

pub lock_success : (t : Turn) (peer : ℕ) (f : FrameView) (p since : ℕ) → t.w.phase ≡ AsksLock p since → t.w.part ≡ Drops → line_in f.body ≡ Some Success → takes_frame t peer f f.body ≡ hears t f
lock_success t peer f p since is part told = takes_line t peer f Success (AsksLock p since) is told ∙ ap (λ (x : Part). takes_answer t f peer x (AsksLock p since) Success) part

pub look_success : (t : Turn) (peer : ℕ) (f : FrameView) (p : ℕ) → t.w.phase ≡ AsksLook p → t.w.part ≡ Drops → line_in f.body ≡ Some Success → takes_frame t peer f f.body ≡ hears t f
look_success t peer f p is part told = takes_line t peer f Success (AsksLook p) is told ∙ ap (λ (x : Part). takes_answer t f peer x (AsksLook p) Success) part

-- ---- what it makes of the job

line_open : (c : End) (epoch : ℕ) (body : FrameText) (m : Message) → line_in body ≡ Some m → end_takes c epoch body ≡ c
line_open c epoch (Line text) m e = refl
line_open c epoch Opening m e = absurd (cc)
line_open c epoch Closing m e = absurd (cc)
line_open c epoch (Bytes n) m e = refl

-- a message that is heard moves the job as its phase says
pub moved_listens : (t : Turn) (f : FrameView) (peer : ℕ) → Taking t f peer → (m : Message) (phase : Phase) → t.w.phase ≡ phase → line_in f.body ≡ Some m
    → moved t (hears t f) (talk t) ≡ listens (talker t (Some f)) phase m
moved_listens t f peer x m phase is told =
    ap (λ (p : Option ℕ). talks_on (rows_of t) (me t) y (made_entry t (hears t f)) p) x.on
    ∙ (ap (λ (b : Bool). if b then after_frame y f.body else closed_part (me t) y peer y.part) opened
    ∙ took_listens y f.body m phase told (talker_phase t (Some f) ∙ is))
  where
    y : Work
    y = talker t (Some f)

    same : job_end y peer ≡ job_end t.w peer
    same = ap (λ (s : ℕ). let a : EndName = record { peer = peer; slot = s; client = true } in a) (talker_slot t (Some f))

    opened : (end_after (job_end y peer) (t.ends (job_end y peer)) (made_entry t (hears t f))).opened ≡ true
    opened = subst (λ (a : EndName). (end_after a (t.ends a) (made_entry t (hears t f))).opened ≡ true) (sym same)
        (subst (λ (b : Bool). (end_took (end_with t peer) (if b then Some f else None)).opened ≡ true) (sym x.of_end)
        (ap (λ (c : End). c.opened) (line_open (end_with t peer) f.epoch f.body m told) ∙ x.opened))

-- **what one entry adds to the list**: SUCCESS to LOCKCONTENT, SUCCESS and FAILURE to CHECKPRESENT
pub lock_heard : (t : Turn) (f : FrameView) (peer : ℕ) → Taking t f peer → (p since : ℕ) → t.w.phase ≡ AsksLock p since → line_in f.body ≡ Some Success
    → (moved t (hears t f) (talk t)).heard ≡ (p, Held since) ∷ t.w.heard
lock_heard t f peer x p since is told = ap (λ (w : Work). w.heard) (moved_listens t f peer x Success (AsksLock p since) is told) ∙ ap (λ (hs : List (ℕ × Heard)). (p, Held since) ∷ hs) (talker_heard t (Some f))

pub look_heard : (t : Turn) (f : FrameView) (peer : ℕ) → Taking t f peer → (p : ℕ) → t.w.phase ≡ AsksLook p → line_in f.body ≡ Some Success
    → (moved t (hears t f) (talk t)).heard ≡ (p, Seen) ∷ t.w.heard
look_heard t f peer x p is told = ap (λ (w : Work). w.heard) (moved_listens t f peer x Success (AsksLook p) is told) ∙ ap (λ (hs : List (ℕ × Heard)). (p, Seen) ∷ hs) (talker_heard t (Some f))
