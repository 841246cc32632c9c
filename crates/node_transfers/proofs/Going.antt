-- A transfer that awaits no frame: whether there is room for what it sends next.
use Rattle.std.proofs.Common.{◌≡◌, ℕ, ◌*◌, ◌<◌, ◌≤◌, Bool, true, false, if◌then◌else◌, List, [], ◌∷◌, length, Option, Some, None, refl, sym, ap, subst, ◌∙◌, arith}
use Rattle.std.specs.Prelude.{◌&&◌, ◌==◌, IfSome, is_some, nat_lt}
use Rattle.std.specs.List.{list_all}
use Rattle.std.specs.Option.{option_to_list}
use Rattle.std.proofs.lemmas.Bool.Decides.{nat_tests}
use Rattle.link_ring.specs.Ends.{EndView}
use Rattle.node_model.specs.Ends.{End, EndName}
use Rattle.node_model.specs.Jobs.{Drops, Work, partner}
use Rattle.node_model.specs.JobStep.{Turn, end_with, turn_of}
use Rattle.node_model.specs.Look.{Look, waiting_frame}
use Rattle.node_model.specs.SetUp.{SetUp}
use Rattle.node_model.specs.State.{State}
use Rattle.node_model.specs.Turns.{awaits, by_partner, goes, goes_on, has_room, is_awaiting, needs, slot_step, with_partner}
use Rattle.node_ends.specs.Ends.{end_at, has_room as end_has_room, link_at, passes, room_at}
use Rattle.end_hearing.specs.declared.hearing.Arrival.{Arrival}
use Rattle.end_hearing.proofs.Places.{none_beyond, open_among}
use Rattle.get_phases.specs.declared.getting.Phase.{Phase as GetPhase}
use Rattle.get_phases.specs.declared.getting.Phase.TheVariants as gets
use Rattle.get_phases.specs.Gets.{is_done as has_got, part_of as part_of_get}
use Rattle.put_steps.specs.declared.phase.Phase.{Phase as PutPhase}
use Rattle.put_steps.specs.declared.phase.Phase.TheVariants as puts
use Rattle.put_steps.specs.Puts.{is_done as has_put, part_of as part_of_put}
use Rattle.transfer_turns.specs.Parcels.{end_in}
use Rattle.transfer_turns.specs.Turns.{Comes, Sight, awaited}
use Rattle.transfer_worker.specs.declared.worker.Worker.{Worker}
use Rattle.transfer_worker.specs.declared.worker.Worker.TheVariants.{Gets, Puts}
use Rattle.transfer_worker.specs.States.{FindsAt, HasWay, IsSight}
use Rattle.transfer_worker.specs.Workers.{CanStep, work_of}
use Rattle.node_transfers.specs.Ready.{Answers, Has, IsTold, NamesPeer, SeesWays, sight_of, taken_by}
use Rattle.node_transfers.proofs.Hearing.{finds_room}
use Rattle.node_transfers.proofs.Peers.{next_known, partner_needs}

-- ---- a transfer that can step is no drop yet, and has heard nothing

get_part : (phase : GetPhase) → has_got phase ≡ false → part_of_get phase ≡ Drops → ⊥
get_part gets.Fresh going is = cc
get_part (gets.Next fill) going is = cc
get_part (gets.Opens peer fill) going is = cc
get_part (gets.Greets peer fill) going is = cc
get_part (gets.Data peer wanting) going is = cc
get_part (gets.Bytes peer start taking) going is = cc
get_part (gets.Word peer start taken) going is = cc
get_part (gets.Ends why) going is = cc
get_part gets.Done going is = cc

put_part : (phase : PutPhase) → has_put phase ≡ false → part_of_put phase ≡ Drops → ⊥
put_part puts.Fresh going is = cc
put_part (puts.Opens peer) going is = cc
put_part (puts.Greets peer) going is = cc
put_part (puts.Offer peer) going is = cc
put_part (puts.Bytes s) going is = cc
put_part (puts.Word peer start) going is = cc
put_part (puts.Answer peer start) going is = cc
put_part (puts.Ends why) going is = cc
put_part puts.Done going is = cc

pub no_drop : (x : Sight) (w : Worker) → CanStep x w → (work_of w).part ≡ Drops → ⊥
no_drop x (Gets w) can is = get_part w.phase can is
no_drop x (Puts w) can is = put_part w.phase can.1 is

pub unheard : (w : Worker) → (work_of w).heard ≡ []
unheard (Gets w) = refl
unheard (Puts w) = refl

-- ---- whether it has a step

abbrev bare : Arrival
bare = record { incoming = None; word = None; takes = None }

module _ (repo count : ℕ) (links : List EndView) (v : Work) (free : awaited v ≡ None) where
  module _ (s : SetUp) (st : State) (k : Look) where
    abbrev t : Turn
    t = turn_of s st k v

    abbrev Goes : Type 0
    Goes = FindsAt t (awaited v) (taken_by links v.slot None) × Comes (sight_of repo count links) v.slot (awaited v) (taken_by links v.slot None) None

    by_way : HasWay t (partner v.what.peer v.phase) → Goes
    by_way way = (subst (λ (o : Option ℕ). FindsAt t o None) (sym free) way, subst (λ (o : Option ℕ). Comes (sight_of repo count links) v.slot o None None) (sym free) (refl, refl))

    goes_roomy : list_all (has_room t) (needs t v.phase) ≡ true → Goes
    goes_roomy room = by_way (go (partner v.what.peer v.phase))
      where
        go : (o : Option ℕ) → HasWay t o
        go None = room
        go (Some peer) = λ live. room

    goes_shut : (peer : ℕ) → partner v.what.peer v.phase ≡ Some peer → (end_with t peer).opened ≡ false → Goes
    goes_shut peer is shut = by_way (subst (HasWay t) (sym is) (λ live. absurd (let both : true ≡ false = sym live ∙ shut in cc)))

    -- it awaits nothing of the peer with which it talks
    gives : (peer : ℕ) → partner v.what.peer v.phase ≡ Some peer → is_awaiting v.phase ≡ false
    gives peer is = go (is_awaiting v.phase) (partner v.what.peer v.phase) free is
      where
        go : (b : Bool) (o : Option ℕ) → (if b then o else None) ≡ None → o ≡ Some peer → b ≡ false
        go true o none some = absurd (let both : None ≡ Some peer = sym none ∙ some in cc)
        go false o none some = refl

    stays_full : list_all (has_room t) (needs t v.phase) ≡ false → ((peer : ℕ) → partner v.what.peer v.phase ≡ Some peer → (end_with t peer).opened ≡ true) → slot_step s st k (Some v) ≡ None
    stays_full full live = go (partner v.what.peer v.phase) refl
      where
        goes_none : goes_on t ≡ None
        goes_none = ap (λ (b : Bool). if b then Some (goes t v.phase) else None) full

        go : (o : Option ℕ) → partner v.what.peer v.phase ≡ o → by_partner t o ≡ None
        go None is = goes_none
        go (Some peer) is =
            ap (with_partner t peer) (live peer is)
            ∙ (ap (λ (b : Bool). if b then awaits t peer (waiting_frame (end_with t peer) k (end_in v.slot peer)) else goes_on t) (gives peer is) ∙ goes_none)

  module _ (long : length links ≡ count * 8) (below : v.slot < 4)
      (roomy : (peer : ℕ) (s : SetUp) (st : State) (k : Look) → SeesWays repo count links s st k → peer < count → has_room (turn_of s st k v) peer ≡ room_at links (end_in v.slot peer))
      (next : Option ℕ) (sent : (s : SetUp) (st : State) (k : Look) → IsSight (sight_of repo count links) s st → option_to_list next ≡ needs (turn_of s st k v) v.phase) where
    seen : (s : SetUp) (st : State) (k : Look) → SeesWays repo count links s st k → IsSight (sight_of repo count links) s st
    seen s st k z = record { repo = sym z.number; count = sym z.among; ends = λ i a. sym (z.ends a) i }

    needs_are : (o : Option ℕ) → next ≡ o → (s : SetUp) (st : State) (k : Look) → SeesWays repo count links s st k → needs (turn_of s st k v) v.phase ≡ option_to_list o
    needs_are o is s st k z = sym (sent s st k (seen s st k z)) ∙ ap (λ (n : Option ℕ). option_to_list n) is

    pub has_none : next ≡ None → Has repo count links v (Some bare)
    has_none is = λ s st k z. goes_roomy s st k (ap (list_all (has_room (turn_of s st k v))) (needs_are None is s st k z))

    -- the room at the peer's end is all that it needs
    rooms_are : (peer : ℕ) → next ≡ Some peer → peer < count → (s : SetUp) (st : State) (k : Look) → SeesWays repo count links s st k → list_all (has_room (turn_of s st k v)) (needs (turn_of s st k v) v.phase) ≡ room_at links (end_in v.slot peer)
    rooms_are peer is known s st k z =
        ap (list_all (has_room (turn_of s st k v))) (needs_are (Some peer) is s st k z) ∙ (and_true (has_room (turn_of s st k v) peer) ∙ roomy peer s st k z known)
      where
        and_true : (b : Bool) → (b && true) ≡ b
        and_true true = refl
        and_true false = refl

    -- it is there where it has room
    room_among : (peer : ℕ) → room_at links (end_in v.slot peer) ≡ true → peer < count
    room_among peer room = go (nat_lt peer count) refl
      where
        go : (b : Bool) → nat_lt peer count ≡ b → peer < count
        go true low = grind (arith, nat_tests, low)
        go false high =
            let far : count ≤ peer = grind (arith, nat_tests, high) in
            absurd (let both : true ≡ false = sym room ∙ ap (passes end_has_room) (none_beyond links count v.slot peer long far) in cc)

    pub has_roomy : (peer : ℕ) → next ≡ Some peer → room_at links (end_in v.slot peer) ≡ true → Has repo count links v (Some bare)
    has_roomy peer is room = λ s st k z. goes_roomy s st k (rooms_are peer is (room_among peer room) s st k z ∙ room)

    -- the peer to which it sends is that with which it talks
    same_peer : (peer p : ℕ) → next ≡ Some peer → partner v.what.peer v.phase ≡ Some p → (s : SetUp) (st : State) (k : Look) → SeesWays repo count links s st k → p ≡ peer
    same_peer peer p is talks s st k z =
        let both : p ∷ [] ≡ peer ∷ [] = sym (partner_needs (turn_of s st k v) v.what.peer v.phase p (gives s st k p talks) talks) ∙ needs_are (Some peer) is s st k z in cc

    pub has_shut : (peer : ℕ) → next ≡ Some peer → is_some (partner v.what.peer v.phase) ≡ true → (end_at links (end_in v.slot peer)).opened ≡ false → Has repo count links v (Some bare)
    has_shut peer is talks shut = λ s st k z. go s st k z (partner v.what.peer v.phase) refl talks
      where
        go : (s : SetUp) (st : State) (k : Look) → SeesWays repo count links s st k → (o : Option ℕ) → partner v.what.peer v.phase ≡ o → is_some o ≡ true
            → FindsAt (turn_of s st k v) (awaited v) (taken_by links v.slot None) × Comes (sight_of repo count links) v.slot (awaited v) (taken_by links v.slot None) None
        go s st k z None at some = absurd cc
        go s st k z (Some p) at some =
            goes_shut s st k p at (ap (λ (e : End). e.opened) (z.ends (end_in v.slot p)) ∙ (ap (λ (n : ℕ). (end_at links (end_in v.slot n)).opened) (same_peer peer p is at s st k z) ∙ shut))

    pub has_full : (peer : ℕ) → v.heard ≡ [] → (v.part ≡ Drops → ⊥) → NamesPeer repo count v → next ≡ Some peer → room_at links (end_in v.slot peer) ≡ false → (is_some (partner v.what.peer v.phase) ≡ true → (end_at links (end_in v.slot peer)).opened ≡ true)
        → Has repo count links v None
    has_full peer heard other names is full live = λ s st k z.
        stays_full s st k (rooms_are peer is (known s st k z (partner v.what.peer v.phase) refl) s st k z ∙ full)
        (λ p at. ap (λ (e : End). e.opened) (z.ends (end_in v.slot p)) ∙ (ap (λ (n : ℕ). (end_at links (end_in v.slot n)).opened) (same_peer peer p is at s st k z) ∙ live (ap (λ (o : Option ℕ). is_some o) at)))
      where
        named : (o : Option ℕ) → IfSome o (λ p. (p < count) × ((repo == p) ≡ false)) → IfSome o (λ p. p < count)
        named None n = tt
        named (Some p) n = n.0

        known : (s : SetUp) (st : State) (k : Look) → SeesWays repo count links s st k → (o : Option ℕ) → partner v.what.peer v.phase ≡ o → peer < count
        known s st k z None at =
            next_known (turn_of s st k v) count z.among heard peer (named v.what.peer names) v.what.peer v.phase other at (needs_are (Some peer) is s st k z)
        known s st k z (Some p) at = open_among links count v.slot peer long (live (ap (λ (o : Option ℕ). is_some o) at))

-- where there is no room for what it sends next, it has no step
pub full_answers : (repo count : ℕ) (links : List EndView) (w : Worker) → length links ≡ count * 8 → (work_of w).slot < 4 → ((ls : List EndView) (n : ℕ) (a : EndName) → length ls ≡ n * 8 → a.peer < n → a.slot < 4 → is_some (link_at ls a) ≡ true)
    → CanStep (sight_of repo count links) w → NamesPeer repo count (work_of w) → awaited (work_of w) ≡ None → (next : Option ℕ)
    → ((s : SetUp) (st : State) (k : Look) → IsSight (sight_of repo count links) s st → option_to_list next ≡ needs (turn_of s st k (work_of w)) (work_of w).phase)
    → (peer : ℕ) → next ≡ Some peer → room_at links (end_in (work_of w).slot peer) ≡ false → (is_some (partner (work_of w).what.peer (work_of w).phase) ≡ true → (end_at links (end_in (work_of w).slot peer)).opened ≡ true) → Answers repo count links w None
full_answers repo count links w long below there can names free next sent peer is full live =
    record {
      has = has_full repo count links (work_of w) free long below (finds_room repo count links (work_of w) long below there) next sent peer (unheard w) (no_drop (sight_of repo count links) w can) names is full live;
      told = subst (λ (q : Option ℕ). IsTold links (work_of w).slot q None) (sym free) tt;
    }
