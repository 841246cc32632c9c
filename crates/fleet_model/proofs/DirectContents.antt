-- A fleet whose node was given a content or a part has come to where the driver is.
use Rattle.std.proofs.Common.{◌≡◌, ℕ, ◌<◌, ◌≤◌, ◌^◌, Bool, true, false, List, [], length, Option, Some, None, refl, ap, ◌∙◌}
use Rattle.std.specs.Prelude.{if◌then◌else◌}
use Rattle.annex_base.specs.declared.kinds.Call.{Call}
use Rattle.annex_base.specs.declared.kinds.Call.TheVariants as calls
use Rattle.object_store.specs.Stores.{Contents, Parts}
use Rattle.node_model.specs.SetUp.{SetUp}
use Rattle.node_model.specs.State.{State}
use Rattle.driver_model.specs.Driver.{Driver, DriverInput, part_at, set_up_of}
use Rattle.driver_model.specs.ScriptSteps.{has, is_busy, sets_part}
use Rattle.driver_model.specs.Sound.{StaysSound}
use Rattle.joined_nodes.specs.Calls.{IsDoneBy, StopsAt, node_at, to_place, to_place_part}
use Rattle.joined_nodes.specs.Nodes as nodes
use Rattle.joined_nodes.specs.Nodes.{NodeView}
use Rattle.joined_nodes.specs.Placing.{IsPlaced, IsTaken, with_placed}
use Rattle.joined_nodes.specs.Stored.{StoreView}
use Rattle.joined_nodes.specs.Walks.{over}
use Rattle.node_past.specs.declared.refused.NodeRefused.TheVariants as refusals
use Rattle.fleet_model.specs.Fleets.{FleetView, HasCome, IsNodeOf}
use Rattle.fleet_model.specs.Steps.{OneGoesOn, with_newest}
use Rattle.fleet_model.specs.Stores.{IsTold, content_in}
use Rattle.fleet_model.proofs.Busy.{taken_is_busy}
use Rattle.fleet_model.proofs.Directs.{comes_directly}
use Rattle.fleet_model.proofs.Hearing.{WordLaws}
use Rattle.fleet_model.proofs.PartPlacing.{part_stopped, part_well}
use Rattle.fleet_model.proofs.Placing.{placed_stopped, placed_well}
use Rattle.fleet_model.proofs.Raising.{raised_is}
use Rattle.fleet_model.proofs.ScriptGoing.{goes_has, goes_sets_part}
use Rattle.fleet_model.proofs.States.{Carried, state_is}

-- ---- what is busy

-- where a store tells contents and parts, all that a node has is the state's
pub record StandsTold (s : SetUp) (parts : _) (owed : _) (known : Option Contents) (st : State) : Type 0 where
  pub contents : Contents
  pub is : known ≡ Some contents
  pub stands : nodes.IsStateOfParts s parts owed contents st

pub stands_told : (s : SetUp) (parts : _) (files : _) (owed : _) (known : Option Contents) (stored : Option Parts) (st : State) (f : List ℕ → Option (List ℕ)) (h : List ℕ → List ℕ) → IsTold known (λ c. (key : List ℕ) → c key ≡ f key)
    → IsTold stored (λ p. (key : List ℕ) → p key ≡ h key) → nodes.IsState s parts files owed (nodes.told_of known stored) st → StandsTold s parts owed known st
stands_told s parts files owed None stored st f h told has is = absurd told
stands_told s parts files owed (Some c) None st f h told has is = absurd has
stands_told s parts files owed (Some c) (Some p) st f h told has is = record { contents = c; is = refl; stands = is.stands c refl }

busy_is : {K : Type 0} → Carried → (tells : K → StoreView) (g : DriverInput) (d : Driver) (r : ℕ) (n : NodeView K) (was : FleetView K) (key : List ℕ) → HasCome tells g d was → IsNodeOf tells g d r n
    → nodes.IsState (set_up_of g d r) n.parts n.branch n.owed (nodes.told_of (tells n.keeper).contents (tells n.keeper).parts) (nodes.state_of (set_up_of g d r) n.history)
    → (taken : Bool) → IsTaken taken (tells n.keeper).contents n.parts.table key → taken ≡ is_busy g d r key
busy_is {K} carried tells g d r n was key h is state taken told =
    let t = stands_told (set_up_of g d r) n.parts n.branch n.owed (tells n.keeper).contents (tells n.keeper).parts (nodes.state_of (set_up_of g d r) n.history) (content_in d r) (part_at d r) is.store.contents is.store.parts state in
    taken_is_busy g d r n t.contents (tells n.keeper).contents key taken (state_is carried g d r n h.sound is.history) t.stands t.is told

-- ---- rows, ends, sessions and jobs stay

placed_parts : {K : Type 0} (n m : NodeView K) (key : List ℕ) (size : ℕ) (taken : Bool) → m ≡ (if taken then over m.keeper n else with_placed n m.keeper key size) → m.parts ≡ n.parts
placed_parts n m key size true is = ap (λ (x : NodeView _). x.parts) is
placed_parts n m key size false is = ap (λ (x : NodeView _). x.parts) is

at_parts : {K : Type 0} (call : Call) (key bytes : List ℕ) (n : NodeView K) → (node_at call key bytes n).parts ≡ n.parts
at_parts calls.PutFile key bytes n = refl
at_parts call key bytes n = refl

-- ---- contents

pub content_comes : {K : Type 0} → WordLaws → Carried → (tells : K → StoreView) (g : DriverInput) (d : Driver) (r : ℕ) (n m : NodeView K) (was after : FleetView K) (key bytes : List ℕ) → HasCome tells g d was → OneGoesOn r n m was after
    → nodes.IsState (set_up_of g d r) n.parts n.branch n.owed (nodes.told_of (tells n.keeper).contents (tells n.keeper).parts) (nodes.state_of (set_up_of g d r) n.history)
    → IsPlaced key bytes (tells n.keeper).contents (tells n.keeper).parts (tells m.keeper).contents (with_newest d n) m
    → IsDoneBy to_place key [] n.parts.table (tells n.keeper).contents (tells n.keeper).parts (tells m.keeper).parts (tells n.keeper).failing (tells m.keeper).failing
    → length bytes < 2 ^ 62 → m.time ≤ 1000000000000 → m.count < 2 ^ 62 → StaysSound g d (has g r key bytes d) → HasCome tells g (has g r key bytes d) after
content_comes {K} laws carried tells g d r n m was after key bytes h step state placed done small early few sound =
    comes_directly laws tells g d (has g r key bytes d) r n m was after h step (goes_has g r key bytes d small)
    (placed_well tells g d r (with_newest d n) m key bytes (raised_is tells g d r n (h.each r n step.before)) (busy_is carried tells g d r n was key h (h.each r n step.before) state) placed done)
    (placed_parts (with_newest d n) m key (length bytes) placed.taken placed.node) early few sound

pub content_stops : {K : Type 0} → WordLaws → Carried → (tells : K → StoreView) (g : DriverInput) (d : Driver) (r : ℕ) (n m : NodeView K) (was after : FleetView K) (key bytes : List ℕ) → HasCome tells g d was → OneGoesOn r n m was after
    → nodes.IsState (set_up_of g d r) n.parts n.branch n.owed (nodes.told_of (tells n.keeper).contents (tells n.keeper).parts) (nodes.state_of (set_up_of g d r) n.history)
    → StopsAt to_place key bytes (tells n.keeper).contents (tells m.keeper).contents (tells n.keeper).parts (tells m.keeper).parts (tells n.keeper).failing (tells m.keeper).failing refusals.StoreFault (with_newest d n) m
    → length bytes < 2 ^ 62 → m.time ≤ 1000000000000 → m.count < 2 ^ 62 → StaysSound g d (has g r key bytes d) → HasCome tells g (has g r key bytes d) after
content_stops {K} laws carried tells g d r n m was after key bytes h step state stops small early few sound =
    comes_directly laws tells g d (has g r key bytes d) r n m was after h step (goes_has g r key bytes d small)
    (placed_stopped tells g d r (with_newest d n) m key bytes (raised_is tells g d r n (h.each r n step.before)) (busy_is carried tells g d r n was key h (h.each r n step.before) state) stops)
    (ap (λ (x : NodeView K). x.parts) stops.refused ∙ at_parts stops.call key bytes (with_newest d n)) early few sound

-- ---- parts

pub part_comes : {K : Type 0} → WordLaws → Carried → (tells : K → StoreView) (g : DriverInput) (d : Driver) (r : ℕ) (n m : NodeView K) (was after : FleetView K) (key bytes : List ℕ) → HasCome tells g d was → OneGoesOn r n m was after
    → nodes.IsState (set_up_of g d r) n.parts n.branch n.owed (nodes.told_of (tells n.keeper).contents (tells n.keeper).parts) (nodes.state_of (set_up_of g d r) n.history)
    → m ≡ over m.keeper (with_newest d n) → (tells m.keeper).contents ≡ (tells n.keeper).contents
    → IsDoneBy to_place_part key bytes n.parts.table (tells n.keeper).contents (tells n.keeper).parts (tells m.keeper).parts (tells n.keeper).failing (tells m.keeper).failing
    → length bytes < 2 ^ 62 → m.time ≤ 1000000000000 → m.count < 2 ^ 62 → StaysSound g d (sets_part g r key bytes d) → HasCome tells g (sets_part g r key bytes d) after
part_comes {K} laws carried tells g d r n m was after key bytes h step state node contents done small early few sound =
    comes_directly laws tells g d (sets_part g r key bytes d) r n m was after h step (goes_sets_part g r key bytes d small)
    (part_well tells g d r (with_newest d n) m key bytes (raised_is tells g d r n (h.each r n step.before)) (busy_is carried tells g d r n was key h (h.each r n step.before) state) node contents done)
    (ap (λ (x : NodeView K). x.parts) node) early few sound

pub part_stops : {K : Type 0} → WordLaws → Carried → (tells : K → StoreView) (g : DriverInput) (d : Driver) (r : ℕ) (n m : NodeView K) (was after : FleetView K) (key bytes : List ℕ) → HasCome tells g d was → OneGoesOn r n m was after
    → nodes.IsState (set_up_of g d r) n.parts n.branch n.owed (nodes.told_of (tells n.keeper).contents (tells n.keeper).parts) (nodes.state_of (set_up_of g d r) n.history)
    → StopsAt to_place_part key bytes (tells n.keeper).contents (tells m.keeper).contents (tells n.keeper).parts (tells m.keeper).parts (tells n.keeper).failing (tells m.keeper).failing refusals.StoreFault (with_newest d n) m
    → length bytes < 2 ^ 62 → m.time ≤ 1000000000000 → m.count < 2 ^ 62 → StaysSound g d (sets_part g r key bytes d) → HasCome tells g (sets_part g r key bytes d) after
part_stops {K} laws carried tells g d r n m was after key bytes h step state stops small early few sound =
    comes_directly laws tells g d (sets_part g r key bytes d) r n m was after h step (goes_sets_part g r key bytes d small)
    (part_stopped tells g d r (with_newest d n) m key bytes (raised_is tells g d r n (h.each r n step.before)) (busy_is carried tells g d r n was key h (h.each r n step.before) state) stops)
    (ap (λ (x : NodeView K). x.parts) stops.refused ∙ at_parts stops.call key bytes (with_newest d n)) early few sound
