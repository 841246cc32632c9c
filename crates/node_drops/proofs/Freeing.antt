-- A job that awaits no frame: whether it has room.
use Rattle.std.proofs.Common.{◌≡◌, ℕ, ◌+◌, ◌*◌, ◌<◌, Bool, true, false, if◌then◌else◌, List, [], ◌∷◌, length, Option, Some, None, refl, sym, ap, subst, ◌∙◌}
use Rattle.std.specs.Prelude.{◌&&◌}
use Rattle.std.specs.List.{list_all}
use Rattle.annex_base.specs.Lists.{Each}
use Rattle.annex_base.specs.declared.kinds.Word.{Word}
use Rattle.annex_base.specs.declared.kinds.Word.TheVariants as words
use Rattle.annex_base.proofs.Lists.{Each-weaker}
use Rattle.annex_base.proofs.Options.{some_none}
use Rattle.drop_proof.specs.declared.rule.Side.{Side}
use Rattle.drop_proof.specs.declared.rule.Side.TheVariants.{Local, Remote}
use Rattle.link_ring.specs.Ends.{EndView}
use Rattle.run_data.specs.declared.job.Proof.{Proof}
use Rattle.node_model.specs.Clocks.{ClockSet}
use Rattle.node_model.specs.DropStep.{removal_outcome, target}
use Rattle.node_model.specs.Jobs.{Work, partner, side_of}
use Rattle.node_model.specs.JobStep.{Turn, locked_peers, turn_of}
use Rattle.node_model.specs.Knows.{Reading, obeyed_outcome, proof_by}
use Rattle.node_model.specs.Look.{Look}
use Rattle.node_model.specs.Rows.{is_lost_ordered}
use Rattle.node_model.specs.SetUp.{SetUp}
use Rattle.node_model.specs.State.{State}
use Rattle.node_model.specs.Turns.{by_partner, goes, has_room, needs, slot_step}
use Rattle.node_ends.specs.Ends.{end_at, room_at}
use Rattle.object_store.specs.Stores.{Contents}
use Rattle.content_lock.specs.Rows.{Rows}
use Rattle.drop_worker.specs.Begun.{IsOther}
use Rattle.drop_phases.specs.declared.phase.Phase.{Phase}
use Rattle.drop_phases.specs.declared.phase.Phase.TheVariants as phases
use Rattle.drop_phases.specs.declared.phase.Token.{Token}
use Rattle.drop_phases.specs.declared.turn.Taken.TheVariants as takens
use Rattle.drop_worker.specs.Feeding.{FeedsFrameAt, FindsAt}
use Rattle.drop_worker.specs.Leaving.{stands_on}
use Rattle.drop_worker.specs.Sides.{FitsSide, HasTarget, side_in}
use Rattle.drop_worker.specs.States.{HaveState}
use Rattle.drop_worker.specs.Working.{end_in, phase_as, sight, words_of}
use Rattle.node_drops.specs.Feeds.{Answers, PeersOf, SeesJob, bare_feed}
use Rattle.node_drops.specs.Places.{PlaceView}
use Rattle.node_drops.specs.Reads.{KnownLogs}
use Rattle.node_drops.specs.Drops.{DropJob, HasRead, place_reading, work_now}
use Rattle.node_drops.proofs.Hearing.{has_target, link_there, order_is_remote, time_is_remote}
use Rattle.node_drops.proofs.Knowing.{knows_read, sight_so}

-- ---- the peers

-- a removal is no lost order, whatever word came beside its answer
obeyed_kept : (o : Option Word) (proof : Proof) → is_lost_ordered (obeyed_outcome o proof) ≡ false
obeyed_kept None proof = refl
obeyed_kept (Some words.Absent) proof = refl
obeyed_kept (Some word) proof = refl

removal_kept : (side : Side) (t : Turn) → is_lost_ordered (removal_outcome side t) ≡ false
removal_kept Local t = refl
removal_kept Remote t = obeyed_kept (t.look.words (target t)) (proof_by t.read t.w)

-- the words that others told are nothing to them
same_needs : (r : Reading) (s : SetUp) (st : State) (k : Look) (words : ℕ → Option Word) (v : Work) (side : Side) (target : Option ℕ) (phase : Phase) (token : Token) → HasTarget side target r → FitsSide side phase token → partner target (phase_as phase) ≡ None
    → needs (turn_of s st (record k { words = words }) v) (phase_as phase) ≡ needs (turn_of s st k v) (phase_as phase)
same_needs r s st k words v side target phases.Fresh token has fits at = refl
same_needs r s st k words v side target phases.Next token has fits at = refl
same_needs r s st k words v side target (phases.Opens peer) token has fits at = absurd (some_none peer at)
same_needs r s st k words v side target (phases.Greets peer) token has fits at = absurd (some_none peer at)
same_needs r s st k words v side target (phases.AsksLock peer since) token has fits at = absurd (some_none peer at)
same_needs r s st k words v side target (phases.AsksLook peer) token has fits at = absurd (some_none peer at)
same_needs r s st k words v side target phases.AsksTime token has fits at = absurd (has_target r side target has (time_is_remote side token fits) at)
same_needs r s st k words v side target phases.Orders token has fits at = absurd (has_target r side target has (order_is_remote side token fits) at)
same_needs r s st k words v side target phases.Removed token has fits at =
    let t = turn_of s st k v in
    let told = turn_of s st (record k { words = words }) v in
    ap (λ (lost : Bool). if lost then [] else locked_peers t) (removal_kept (side_of v) told) ∙ sym (ap (λ (lost : Bool). if lost then [] else locked_peers t) (removal_kept (side_of v) t))
same_needs r s st k words v side target phases.Denied token has fits at = refl
same_needs r s st k words v side target (phases.Late time) token has fits at = refl
same_needs r s st k words v side target (phases.Ends why) token has fits at = refl

pub all_same : {X : Type 0} (p q : X → Bool) (xs : List X) → Each (λ x. p x ≡ q x) xs → list_all p xs ≡ list_all q xs
all_same p q [] h = refl
all_same p q (x ∷ xs) h = λ i. h.0 i && all_same p q xs h.1 i

-- ---- the answers

module _ (p : PlaceView) (clock : ClockSet) (links : List EndView) (j : DropJob) (time : ℕ) (at : stands_on j.worker ≡ None) where
  goes_by : (s : SetUp) (st : State) (k : Look) → list_all (has_room (turn_of s st k (work_now j))) (needs (turn_of s st k (work_now j)) (work_now j).phase) ≡ false → slot_step s st k (Some (work_now j)) ≡ None
  goes_by s st k full = ap (by_partner (turn_of s st k (work_now j))) at ∙ (λ i. if full i then Some (goes (turn_of s st k (work_now j)) (work_now j).phase) else None)

  free_by : (s : SetUp) (st : State) (k : Look) → list_all (has_room (turn_of s st k (work_now j))) (needs (turn_of s st k (work_now j)) (work_now j).phase) ≡ true
      → FindsAt (turn_of s st k (work_now j)) (stands_on j.worker) None × FeedsFrameAt (sight (place_reading p) (end_at links) time 0) j.worker.slot (stands_on j.worker) None takens.Nothing
  free_by s st k room =
      subst (λ (q : Option ℕ). FindsAt (turn_of s st k (work_now j)) q None × FeedsFrameAt (sight (place_reading p) (end_at links) time 0) j.worker.slot q None takens.Nothing) (sym at) (room, (refl, refl))

  module _ (known : KnownLogs) (is : j.known ≡ Some known) (has : HasTarget (side_in j.worker) j.worker.job.peer (place_reading p)) (fits : FitsSide (side_in j.worker) j.worker.phase j.worker.token)
      (below : j.worker.slot < 4)
      (peers : List ℕ) (of : PeersOf p clock links j.worker known time peers) (others : Each (IsOther (place_reading p)) peers) (count : length links ≡ length p.ids * 8) where
    rooms_are : (rows : Rows) (c : Contents) (s : SetUp) (st : State) (k : Look) → SeesJob p clock links j time s st k → HaveState rows c st
        → list_all (has_room (turn_of s st k (work_now j))) (needs (turn_of s st k (work_now j)) (work_now j).phase) ≡ list_all (λ peer. room_at links (end_in j.worker.slot peer)) peers
    rooms_are rows c s st k sees keeps =
        let told : Look = record k { words = words_of j.worker } in
        let seen = sight_so p clock links s st told j known time (st.made + 1) sees.place sees.ticks (knows_read s st j known (subst (HasRead s st j.worker) is sees.read)) sees.ends refl sees.at refl in
        ap (list_all (has_room (turn_of s st k (work_now j)))) (sym (of (st.made + 1) rows c s st told (work_now j) seen keeps ∙ same_needs (place_reading p) s st k (words_of j.worker) (work_now j) (side_in j.worker) j.worker.job.peer j.worker.phase j.worker.token has fits at))
        ∙ all_same (has_room (turn_of s st k (work_now j))) (λ peer. room_at links (end_in j.worker.slot peer)) peers
        (Each-weaker (IsOther (place_reading p)) (λ peer. has_room (turn_of s st k (work_now j)) peer ≡ room_at links (end_in j.worker.slot peer))
        (λ peer other. sees.sees.room (end_in j.worker.slot peer) (link_there links (length p.ids) j.worker.slot peer count other.0 below)) peers others)

    pub roomy_answers : list_all (λ peer. room_at links (end_in j.worker.slot peer)) peers ≡ true → Answers p clock links j time (Some (bare_feed takens.Nothing))
    roomy_answers room = λ rows c s st k sees keeps. free_by s st k (rooms_are rows c s st k sees keeps ∙ room)

    pub full_answers : list_all (λ peer. room_at links (end_in j.worker.slot peer)) peers ≡ false → Answers p clock links j time None
    full_answers full = λ rows c s st k sees keeps. goes_by s st k (rooms_are rows c s st k sees keeps ∙ full)
