-- A part that a node replaces: a fleet goes on as the driver does, and waits for room where the history is full.
use Rattle.std.proofs.Common.{◌≡◌, ℕ, ◌<◌, ◌≤◌, ◌^◌, List, inl, inr, Some, Err, length, subst}
use Rattle.std.specs.Prelude.{IfErr, OnOk, slice_get}
use Rattle.run_data.specs.Histories.{most_entries}
use Rattle.driver_model.specs.Driver.{Driver, DriverInput, set_up_of}
use Rattle.driver_model.specs.Limits.{count_of, within_limit}
use Rattle.driver_model.specs.Scripts.{IsKnown}
use Rattle.driver_model.specs.ScriptSteps.{sets_part}
use Rattle.driver_model.specs.Sound.{StaysSound}
use Rattle.fleet_entries.specs.Calls.{IsDoneBy, StopsAt, to_place_part}
use Rattle.fleet_entries.specs.Nodes.{IsState, NodeView, state_of, told_of}
use Rattle.fleet_entries.specs.Placing.{StopsBefore}
use Rattle.fleet_entries.specs.Stored.{StoreView}
use Rattle.fleet_entries.specs.Walks.{over}
use Rattle.fleet_entries.specs.Fleets.{FleetView, HasCome}
use Rattle.fleet_entries.specs.Stopping.{OthersAreFew}
use Rattle.fleet_entries.specs.Steps.{OneGoesOn, with_newest}
use Rattle.fleet_entries.specs.AtDriver.{GoesOn, WaitsForRoom}
use Rattle.fleet_entries.specs.Telling.{AreFew}
use Rattle.fleet_entries.specs.declared.NodeRefused.TheVariants as refusals
use Rattle.fleet_entries.proofs.Ended.{Answer, IsEnded}
use Rattle.fleet_entries.proofs.Called.{IsCalled, goes_on}
use Rattle.fleet_keys.proofs.Unasked.{HadRoom, IsUnasked, fault_grew, waits}

-- ---- the laws

-- of a part that was replaced
abbrev pub PartLaw : {K : Type 0} → (K → StoreView) → Type 0
PartLaw {K} tells = (g : DriverInput) (d : Driver) (r : ℕ) (n m : NodeView K) (was after : FleetView K) (key bytes : List ℕ) → HasCome tells g d was → OneGoesOn r n m was after
    → IsState (set_up_of g d r) n.parts n.branch n.owed (told_of (tells n.keeper).contents (tells n.keeper).parts) (state_of (set_up_of g d r) n.history)
    → m ≡ over m.keeper (with_newest d n) → (tells m.keeper).contents ≡ (tells n.keeper).contents
    → IsDoneBy to_place_part key bytes n.parts.table (tells n.keeper).contents (tells n.keeper).parts (tells m.keeper).parts (tells n.keeper).failing (tells m.keeper).failing
    → length bytes < 2 ^ 62 → m.time ≤ 1000000000000 → m.count < 2 ^ 62 → StaysSound g d (sets_part g r key bytes d) → HasCome tells g (sets_part g r key bytes d) after

-- of a step that stopped at a call of the store
abbrev pub PartStopLaw : {K : Type 0} → (K → StoreView) → Type 0
PartStopLaw {K} tells = (g : DriverInput) (d : Driver) (r : ℕ) (n m : NodeView K) (was after : FleetView K) (key bytes : List ℕ) → HasCome tells g d was → OneGoesOn r n m was after
    → IsState (set_up_of g d r) n.parts n.branch n.owed (told_of (tells n.keeper).contents (tells n.keeper).parts) (state_of (set_up_of g d r) n.history)
    → StopsAt to_place_part key bytes (tells n.keeper).contents (tells m.keeper).contents (tells n.keeper).parts (tells m.keeper).parts (tells n.keeper).failing (tells m.keeper).failing refusals.StoreFault (with_newest d n) m
    → length bytes < 2 ^ 62 → m.time ≤ 1000000000000 → m.count < 2 ^ 62 → StaysSound g d (sets_part g r key bytes d) → HasCome tells g (sets_part g r key bytes d) after

-- of one that asked no store
abbrev pub PartAskStops : {K : Type 0} → (K → StoreView) → Type 0
PartAskStops {K} tells = (g : DriverInput) (d : Driver) (r : ℕ) (n : NodeView K) (was : FleetView K) → HasCome tells g d was → slice_get was.nodes r ≡ Some n → OthersAreFew r was.nodes
    → (key bytes : List ℕ) → length n.history ≡ most_entries → (count_of d.past r ≡ most_entries) × (within_limit g (sets_part g r key bytes d).past ≡ d.past)

-- ---- the step

-- what a call of a node that replaces a part makes of it, where it answers so
pub record PlacesPart {K : Type 0} (tells : K → StoreView) (key bytes : List ℕ) (done : Answer) (n m : NodeView K) : Type 0 where
  pub node : OnOk done (m ≡ over m.keeper n)
  pub contents : (tells m.keeper).contents ≡ (tells n.keeper).contents
  pub by : OnOk done (IsDoneBy to_place_part key bytes n.parts.table (tells n.keeper).contents (tells n.keeper).parts (tells m.keeper).parts (tells n.keeper).failing (tells m.keeper).failing)
  pub before : IfErr done (λ e. StopsBefore e n m)
  pub stops : IfErr done (λ e. StopsAt to_place_part key bytes (tells n.keeper).contents (tells m.keeper).contents (tells n.keeper).parts (tells m.keeper).parts (tells n.keeper).failing (tells m.keeper).failing e n m)

part_goes : {K : Type 0} (tells : K → StoreView) (r : ℕ) (was up after : FleetView K) (key bytes : List ℕ) (done : Answer) → PartLaw tells → PartStopLaw tells → r < length was.nodes
    → IsCalled tells r was up after (PlacesPart tells key bytes done) → length bytes < 2 ^ 62
    → IsEnded done → ((g : DriverInput) (d : Driver) → IsKnown g r → StaysSound g d (sets_part g r key bytes d)) → GoesOn tells (λ g d. sets_part g r key bytes d) was after
part_goes tells r was up after key bytes done law stop there call small (inl e) sound =
    goes_on tells (λ g d. sets_part g r key bytes d) r was up after (PlacesPart tells key bytes done) there call
    (λ g d come known s.
    law g d r s.before s.left was after key bytes come s.goes (s.whole.state (set_up_of g d r) (come.each r s.before s.goes.before).setup)
    (subst (λ (a : Answer). OnOk a (s.left ≡ over s.left.keeper (with_newest d s.before))) e s.holds.node) s.holds.contents
    (subst (λ (a : Answer). OnOk a (IsDoneBy to_place_part key bytes s.before.parts.table (tells s.before.keeper).contents (tells s.before.keeper).parts (tells s.left.keeper).parts (tells s.before.keeper).failing (tells s.left.keeper).failing)) e s.holds.by)
    small s.early s.counted (sound g d known))
part_goes tells r was up after key bytes done law stop there call small (inr e) sound =
    goes_on tells (λ g d. sets_part g r key bytes d) r was up after (PlacesPart tells key bytes done) there call
    (λ g d come known s.
    stop g d r s.before s.left was after key bytes come s.goes (s.whole.state (set_up_of g d r) (come.each r s.before s.goes.before).setup)
    (subst (λ (a : Answer). IfErr a (λ x. StopsAt to_place_part key bytes (tells s.before.keeper).contents (tells s.left.keeper).contents (tells s.before.keeper).parts (tells s.left.keeper).parts (tells s.before.keeper).failing (tells s.left.keeper).failing x (with_newest d s.before) s.left)) e s.holds.stops)
    small s.early s.counted (sound g d known))

-- where the node was given a copy of the bytes
pub part_goes_so : {K : Type 0} (tells : K → StoreView) (r : ℕ) (was up after : FleetView K) (key bytes bytes' : List ℕ) (done : Answer) → bytes' ≡ bytes → PartLaw tells → PartStopLaw tells → r < length was.nodes
    → IsCalled tells r was up after (PlacesPart tells key bytes' done) → length bytes < 2 ^ 62
    → IsEnded done → ((g : DriverInput) (d : Driver) → IsKnown g r → StaysSound g d (sets_part g r key bytes d)) → GoesOn tells (λ g d. sets_part g r key bytes d) was after
part_goes_so {K} tells r was up after key bytes bytes' done same law stop there call small ended sound =
    part_goes tells r was up after key bytes done law stop there (subst (λ (b : List ℕ). IsCalled tells r was up after (PlacesPart tells key b done)) same call) small ended sound

-- ---- a full history

-- a node that was full was not asked
pub not_asked : {K : Type 0} (done : Answer) (n m : NodeView K) → IfErr done (λ e. StopsBefore e n m) → done ≡ Err refusals.Full → IsUnasked n m
not_asked {K} done n m before full = let stops = subst (λ (a : Answer). IfErr a (λ e. StopsBefore e n m)) full before in (stops.refused.1, stops.refused.0)

pub part_ends : {K : Type 0} (tells : K → StoreView) (r q : ℕ) (was up after : FleetView K) (key bytes : List ℕ) → q ≡ r → PartAskStops tells → r < length was.nodes → IsCalled tells r was up after IsUnasked → AreFew after.nodes
    → (q ≡ r) × WaitsForRoom tells r (λ g d. sets_part g r key bytes d) was after
part_ends tells r q was up after key bytes is ask there call few =
    (is, waits tells (λ g d. sets_part g r key bytes d) r was up after (λ g d n come at others full. ask g d r n was come at others key bytes full) there call few)

-- ---- room

pub part_had_room : {K : Type 0} (tells : K → StoreView) (key bytes : List ℕ) (done : Answer) (n m : NodeView K) → IsEnded done → OnOk done (length n.history < most_entries) → PlacesPart tells key bytes done n m → HadRoom n m
part_had_room tells key bytes done n m (inl e) room places = inl (subst (λ (a : Answer). OnOk a (length n.history < most_entries)) e room)
part_had_room tells key bytes done n m (inr e) room places =
    let stops = subst (λ (a : Answer). IfErr a (λ x. StopsBefore x n m)) e places.before in
    inr (fault_grew stops.call n m stops.refused)
