-- An idle turn of a node of a fleet that began where no frame was at hand: the driver's turn follows, and no frame is carried.
use Rattle.std.proofs.Common.{◌≡◌, ◌≢◌, ℕ, ◌<◌, List, ◌++◌, Some, drop, length, map, sym, ap, ◌∙◌, subst}
use Rattle.std.specs.Prelude.{slice_get}
use Rattle.std.specs.Option.{ForSome}
use Rattle.std.proofs.Math.Seq.{drop-length}
use Rattle.std.proofs.lemmas.List.{append-nil}
use Rattle.annex_base.proofs.Lists.{slice_get-within}
use Rattle.link_ring.specs.Ends.{after_drop}
use Rattle.run_data.specs.declared.entry.Entry.{Entry}
use Rattle.node_model.specs.SetUp.{SetUp}
use Rattle.fleet_entries.specs.Nodes.{NodeView, told_of}
use Rattle.fleet_entries.specs.Stored.{StoreView}
use Rattle.fleet_entries.specs.Turning.{IsIdle}
use Rattle.fleet_entries.specs.declared.Turn.{Turn}
use Rattle.driver_model.specs.Driver.{Driver, DriverInput, set_up_of}
use Rattle.driver_model.specs.Turning.{turn}
use Rattle.fleet_entries.specs.Joined.{AreNodes}
use Rattle.fleet_entries.specs.Fleets.{FleetView, HasCome}
use Rattle.fleet_entries.specs.Steps.{OneGoesOn, with_newest, with_links}
use Rattle.fleet_entries.specs.Turns.{StandsWell}
use Rattle.fleet_entries.specs.AtDriver.{GoesOn}
use Rattle.fleet_entries.specs.Nodes as nodes
use Rattle.fleet_entries.specs.declared.Turn.TheVariants as turns
use Rattle.fleet_turns.proofs.Turning.{TakesTurn, dropped_with, stands_well, where_told}
use Rattle.fleet_entries.proofs.Called.{raised_is}

-- The turn had no step ready and no frame to drop.
pub record IsRested {K : Type 0} (tells : K → StoreView) (r had : ℕ) (t : Turn) (was up : FleetView K) (turned : List (NodeView K)) : Type 0 where
  pub turn : TakesTurn tells r had t was up turned
  pub is_idle : t ≡ turns.Idle
  pub kept : (n : NodeView K) → slice_get was.nodes r ≡ Some n → map after_drop n.parts.links ≡ n.parts.links
  pub joined : AreNodes was.nodes

-- the law of a turn after which no frame is carried
abbrev pub RestLaw : Type 0 → Type 0
RestLaw K = (tells : K → StoreView) (g : DriverInput) (d : Driver) (r : ℕ) (n m : NodeView K) (was after : FleetView K)
    → HasCome tells g d was → OneGoesOn r n m was after → AreNodes was.nodes → StandsWell g d r n → map after_drop n.parts.links ≡ n.parts.links
    → m ≡ with_newest d n → IsIdle (with_newest d n) (set_up_of g d r) → HasCome tells g (turn g r d) after

pub rests_on : {K : Type 0} → RestLaw K → (tells : K → StoreView) (r had : ℕ) (t : Turn) (was up : FleetView K) (turned : List (NodeView K))
    → r < length was.nodes → IsRested tells r had t was up turned → GoesOn tells (λ g d. turn g r d) was (record { nodes = turned; run = up.run })
rests_on {K} law tells r had t was up turned there call g d stands = record {
  come = law tells g d r n m was (record { nodes = turned; run = up.run }) come on call.joined well (call.kept n first.1) but idle;
  decides = stands.decides;
}
  where
    come : HasCome tells g d was
    come = stands.come

    first : (n : NodeView K) × (slice_get was.nodes r ≡ Some n)
    first = slice_get-within was.nodes r there

    n : NodeView K
    n = first.0

    second : (p : NodeView K) × (slice_get up.nodes r ≡ Some p)
    second = slice_get-within up.nodes r (subst (λ (c : ℕ). r < c) (sym call.turn.raises.count) there)

    third : (m : NodeView K) × (slice_get turned r ≡ Some m)
    third = slice_get-within turned r (subst (λ (c : ℕ). r < c) (sym (call.turn.count ∙ call.turn.raises.count)) there)

    m : NodeView K
    m = third.0

    up_is : second.0 ≡ with_newest d n
    up_is = raised_is tells g d r had was up n second.0 come call.turn.raises first.1 second.1

    well : StandsWell g d r n
    well = stands_well tells g d r had was up n second.0 come call.turn.raises first.1 second.1

    not_moved : t ≢ turns.Moved
    not_moved moved = clash (sym call.is_idle ∙ moved)
      where
        clash : turns.Idle ≡ turns.Moved → ⊥
        clash e = absurd (cc)

    not_short : t ≢ turns.NoMemory
    not_short short = clash (sym call.is_idle ∙ short)
      where
        clash : turns.Idle ≡ turns.NoMemory → ⊥
        clash e = absurd (cc)

    dropped : m ≡ with_links (with_newest d n) (map after_drop n.parts.links)
    dropped = subst (λ (y : NodeView K). m ≡ with_links y (map after_drop y.parts.links)) up_is
        (call.turn.stays second.0 m second.1 third.1 not_moved ∙ ap (dropped_with second.0) (call.turn.unasked second.0 m second.1 third.1 not_moved not_short))

    but : m ≡ with_newest d n
    but = dropped ∙ ap (with_links (with_newest d n)) (call.kept n first.1)

    idle : IsIdle (with_newest d n) (set_up_of g d r)
    idle = where_told d r (tells n.keeper) ((s : SetUp) → nodes.MatchesSetup n.setup s → IsIdle (with_newest d n) s) (come.each r n first.1).store
        (subst (λ (y : NodeView K). ForSome (told_of (tells y.keeper).contents (tells y.keeper).parts) (λ c. (s : SetUp) → nodes.MatchesSetup y.setup s → IsIdle y s)) up_is (call.turn.idle second.0 m second.1 third.1 call.is_idle))
        (set_up_of g d r) (come.each r n first.1).setup

    no_more : was.run.entries ++ drop (length n.history) m.history ≡ was.run.entries
    no_more = ap (λ (es : List Entry). was.run.entries ++ es) (ap (λ (y : NodeView K). drop (length n.history) y.history) but ∙ drop-length n.history) ∙ append-nil was.run.entries

    on : OneGoesOn r n m was (record { nodes = turned; run = up.run })
    on = record {
      before = first.1;
      there = third.1;
      others = λ q other. call.turn.others q other ∙ call.turn.raises.others q other;
      count = call.turn.count ∙ call.turn.raises.count;
      run = call.turn.raises.run ∙ (λ i. record was.run { entries = sym no_more i });
    }
