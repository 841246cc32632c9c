-- What a transfer is told of the end at which it awaits a frame.
use Rattle.std.proofs.Common.{◌≡◌, ◌≢◌, ℕ, ◌*◌, ◌<◌, Bool, true, false, if◌then◌else◌, List, length, Option, Some, None, Result, Ok, Err, refl, sym, ap, subst, ◌∙◌}
use Rattle.std.specs.Prelude.{◌&&◌, ◌==◌, IfOk, IfSome, is_some}
use Rattle.annex_base.specs.Lists.{Member}
use Rattle.annex_base.specs.declared.memory.NoMemory.{NoMemory}
use Rattle.annex_base.proofs.Conditions.{eqb_refl}
use Rattle.run_data.specs.declared.entry.FrameView.{FrameView}
use Rattle.link_ring.specs.declared.frame.Frame.{Frame}
use Rattle.link_ring.specs.Ends.{EndView}
use Rattle.node_model.specs.AnyTime.{all_ends}
use Rattle.node_model.specs.Ends.{End, EndName, takes_at}
use Rattle.node_model.specs.Jobs.{Work, partner}
use Rattle.node_model.specs.JobStep.{Turn, end_with, turn_of}
use Rattle.node_model.specs.Look.{Look, waiting_frame}
use Rattle.node_model.specs.SetUp.{SetUp}
use Rattle.node_model.specs.State.{State}
use Rattle.node_model.specs.Turns.{awaits, by_partner, goes_on, has_room, is_awaiting, takes_frame, with_partner}
use Rattle.node_ends.specs.Ends.{AreEnds, IsEndOf, SeesEnds, end_at, frame_at, link_at, room_at, wait_at}
use Rattle.session_state.specs.declared.incoming.Incoming.{Incoming}
use Rattle.end_hearing.specs.declared.hearing.Arrival.{Arrival}
use Rattle.end_hearing.specs.Hearing.{Hears, Tells, TellsFrame, has_frame}
use Rattle.end_hearing.proofs.Places.{open_among}
use Rattle.transfer_turns.specs.Parcels.{end_in}
use Rattle.transfer_turns.specs.Turns.{Comes, awaited}
use Rattle.transfer_worker.specs.declared.worker.Worker.{Worker}
use Rattle.transfer_worker.specs.States.{FindsAt}
use Rattle.transfer_worker.specs.Workers.{work_of}
use Rattle.transfer_turns.specs.Partners.{TalksApart}
use Rattle.node_transfers.specs.Ready.{Answers, Has, IsTold, SeesWays, sight_of, taken_by}

-- a frame that waits at an end is one that the end takes
frame_fits : (a : EndName) (f : Frame) → takes_at a (frame_at a f) ≡ true
frame_fits a f = by_side a.client
  where
    by_side : (client : Bool) → takes_at (record { peer = a.peer; slot = a.slot; client = client }) (frame_at (record { peer = a.peer; slot = a.slot; client = client }) f) ≡ true
    by_side true = rw (eqb_refl a.peer, eqb_refl a.slot) refl
    by_side false = rw (eqb_refl a.peer, eqb_refl a.slot) refl

-- where none may be taken, there is no step
none_taken : (t : Turn) (peer : ℕ) (f : Option FrameView) → (has_room t peer && is_some f) ≡ false → awaits t peer f ≡ None
none_taken t peer None none = refl
none_taken t peer (Some f) none = go (has_room t peer) none
  where
    go : (b : Bool) → (b && true) ≡ false → (if b then Some (takes_frame t peer f f.body) else None) ≡ None
    go true e = absurd cc
    go false e = refl

-- the room that a look finds
pub finds_room : (repo count : ℕ) (links : List EndView) (v : Work) → length links ≡ count * 8 → v.slot < 4 → ((ls : List EndView) (n : ℕ) (a : EndName) → length ls ≡ n * 8 → a.peer < n → a.slot < 4 → is_some (link_at ls a) ≡ true)
    → (peer : ℕ) (s : SetUp) (st : State) (k : Look) → SeesWays repo count links s st k → peer < count → has_room (turn_of s st k v) peer ≡ room_at links (end_in v.slot peer)
finds_room repo count links v long below there peer s st k z known = z.sees.room (end_in v.slot peer) (there links count (end_in v.slot peer) long known below)

module _ (repo count : ℕ) (links : List EndView) (v : Work) (long : length links ≡ count * 8) (below : v.slot < 4)
    (listed : (s : SetUp) (a : EndName) → IsEndOf s a → Member a (all_ends s))
    (there : (ls : List EndView) (n : ℕ) (a : EndName) → length ls ≡ n * 8 → a.peer < n → a.slot < 4 → is_some (link_at ls a) ≡ true)
    (law : (ls : List EndView) (s : SetUp) (st : State) (k : Look) (a : EndName) → AreEnds ls s st → SeesEnds ls s k → Member a (all_ends s) → waiting_frame (st.ends a) k a ≡ wait_at ls a) where
  roomy : (peer : ℕ) (s : SetUp) (st : State) (k : Look) → SeesWays repo count links s st k → peer < count → has_room (turn_of s st k v) peer ≡ room_at links (end_in v.slot peer)
  roomy = finds_room repo count links v long below there

  -- the frame that it finds
  waits : (peer : ℕ) (s : SetUp) (st : State) (k : Look) → SeesWays repo count links s st k → peer < count → (repo == peer) ≡ false → waiting_frame (end_with (turn_of s st k v) peer) k (end_in v.slot peer) ≡ wait_at links (end_in v.slot peer)
  waits peer s st k z known apart =
      law links s st k (end_in v.slot peer) (record { count = long ∙ ap (λ (n : ℕ). n * 8) (sym z.among); ends = λ a _. z.ends a }) z.sees
      (listed s (end_in v.slot peer) (record { peer = subst (λ (n : ℕ). peer < n) (sym z.among) known; other = λ same. other (same ∙ z.number); slot = below }))
    where
      other : peer ≢ repo
      other = λ same. (let e : true ≡ false = sym (eqb_refl repo) ∙ (ap (λ (n : ℕ). repo == n) (sym same) ∙ apart) in cc)

  module _ (peer : ℕ) (at : awaited v ≡ Some peer) (apart : TalksApart (sight_of repo count links) v) where
    -- it stands on the connection, and awaits
    stands : (b : Bool) (o : Option ℕ) → (if b then o else None) ≡ Some peer → (b ≡ true) × (o ≡ Some peer)
    stands true o is = (refl, is)
    stands false o is = absurd cc

    waiting : is_awaiting v.phase ≡ true
    waiting = (stands (is_awaiting v.phase) (partner v.what.peer v.phase) at).0

    partner_is : partner v.what.peer v.phase ≡ Some peer
    partner_is = (stands (is_awaiting v.phase) (partner v.what.peer v.phase) at).1

    other_is : (repo == peer) ≡ false
    other_is = subst (λ (o : Option ℕ). IfSome o (λ p. (repo == p) ≡ false)) partner_is apart

    idle : (end_at links (end_in v.slot peer)).opened ≡ true → has_frame links (end_in v.slot peer) ≡ false → Has repo count links v None
    idle live none = λ s st k z.
        let t = turn_of s st k v in
        let known = open_among links count v.slot peer long live in
        ap (by_partner t) partner_is ∙ (ap (λ (e : End). with_partner t peer e.opened) (z.ends (end_in v.slot peer)) ∙ (ap (with_partner t peer) live
        ∙ ((λ i. if waiting i then awaits t peer (waiting_frame (end_with t peer) k (end_in v.slot peer)) else goes_on t)
        ∙ (ap (awaits t peer) (waits peer s st k z known other_is) ∙ none_taken t peer (wait_at links (end_in v.slot peer)) (ap (λ (b : Bool). b && is_some (wait_at links (end_in v.slot peer))) (roomy peer s st k z known) ∙ none)))))

    shut : (x : Arrival) → x.takes ≡ None → (end_at links (end_in v.slot peer)).opened ≡ false → x.incoming ≡ None → Has repo count links v (Some x)
    shut x takes closed none = λ s st k z.
        let t = turn_of s st k v in (
          subst (λ (o : Option ℕ). FindsAt t o (taken_by links v.slot x.takes)) (sym at) (subst (λ (o : Option ℕ). FindsAt t (Some peer) (taken_by links v.slot o)) (sym takes) (ap (λ (e : End). e.opened) (z.ends (end_in v.slot peer)) ∙ closed)),
          subst (λ (o : Option ℕ). Comes (sight_of repo count links) v.slot o (taken_by links v.slot x.takes) x.incoming) (sym at)
              (subst (λ (o : Option ℕ). Comes (sight_of repo count links) v.slot (Some peer) (taken_by links v.slot o) x.incoming) (sym takes)
              (subst (λ (i : Option Incoming). Comes (sight_of repo count links) v.slot (Some peer) None i) (sym none) (other_is, closed))),
        )

    comes : (x : Arrival) → x.takes ≡ Some peer → TellsFrame links (end_in v.slot peer) x → Has repo count links v (Some x)
    comes x takes told = λ s st k z.
        let t = turn_of s st k v in
        let known = open_among links count v.slot peer long told.opened in
        let f : FrameView = frame_at (end_in v.slot peer) told.frame in
        let taken : taken_by links v.slot x.takes ≡ Some f = ap (taken_by links v.slot) takes ∙ told.waits in (
          subst (λ (o : Option ℕ). FindsAt t o (taken_by links v.slot x.takes)) (sym at) (subst (λ (o : Option FrameView). FindsAt t (Some peer) o) (sym taken) (waits peer s st k z known other_is ∙ told.waits, roomy peer s st k z known ∙ told.room)),
          subst (λ (o : Option ℕ). Comes (sight_of repo count links) v.slot o (taken_by links v.slot x.takes) x.incoming) (sym at)
              (subst (λ (o : Option FrameView). Comes (sight_of repo count links) v.slot (Some peer) o x.incoming) (sym taken)
              (subst (λ (i : Option Incoming). Comes (sight_of repo count links) v.slot (Some peer) (Some f) i) (sym told.told) (frame_fits (end_in v.slot peer) told.frame, told.opened, other_is, told.brings))),
        )

    by_takes : (x : Arrival) (o : Option ℕ) → x.takes ≡ o → Tells links (end_in v.slot peer) x o → Has repo count links v (Some x)
    by_takes x None takes told = shut x takes told.closed told.incoming
    by_takes x (Some p) takes told = comes x (takes ∙ ap (λ (n : ℕ). Some n) told.0) told.1

    pub heard_has : (o : Option Arrival) → Hears links (end_in v.slot peer) o → Has repo count links v o
    heard_has None quiet = idle quiet.0 quiet.1
    heard_has (Some x) told = by_takes x x.takes refl told

-- what is heard at the end of the peer whose frame it awaits
pub heard_answers : (repo count : ℕ) (links : List EndView) (w : Worker) → length links ≡ count * 8 → (work_of w).slot < 4 → ((s : SetUp) (a : EndName) → IsEndOf s a → Member a (all_ends s))
    → ((ls : List EndView) (n : ℕ) (a : EndName) → length ls ≡ n * 8 → a.peer < n → a.slot < 4 → is_some (link_at ls a) ≡ true)
    → ((ls : List EndView) (s : SetUp) (st : State) (k : Look) (a : EndName) → AreEnds ls s st → SeesEnds ls s k → Member a (all_ends s) → waiting_frame (st.ends a) k a ≡ wait_at ls a)
    → (peer : ℕ) → awaited (work_of w) ≡ Some peer → TalksApart (sight_of repo count links) (work_of w) → (r : Result (Option Arrival) NoMemory) → IfOk r (Hears links (end_in (work_of w).slot peer)) → IfOk r (Answers repo count links w)
heard_answers repo count links w long below listed there law peer at apart (Ok o) heard =
    record {
      has = heard_has repo count links (work_of w) long below listed there law peer at apart o heard;
      told = subst (λ (q : Option ℕ). IsTold links (work_of w).slot q o) (sym at) heard;
    }
heard_answers repo count links w long below listed there law peer at apart (Err e) heard = tt
