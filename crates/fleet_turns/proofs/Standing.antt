-- The node of a call that frames are carried after: as it was before, and as the call left it.
use Rattle.std.proofs.Common.{◌≡◌, ℕ, ◌<◌, ◌≤◌, ◌^◌, List, Some, length, sym, ◌∙◌, subst}
use Rattle.std.specs.Prelude.{slice_get}
use Rattle.annex_base.proofs.Lists.{slice_get-within}
use Rattle.driver_model.specs.Driver.{Driver, DriverInput}
use Rattle.fleet_entries.specs.Joined.{AtNode}
use Rattle.fleet_entries.specs.Joined as joined
use Rattle.fleet_entries.specs.Nodes.{NodeView}
use Rattle.fleet_entries.specs.Stored.{StoreView}
use Rattle.fleet_entries.specs.Fleets.{FleetView, HasCome}
use Rattle.fleet_entries.specs.Steps.{OneTurns, with_newest}
use Rattle.fleet_entries.specs.Turns.{StandsWell}
use Rattle.fleet_entries.proofs.Called.{raised_is}
use Rattle.fleet_turns.proofs.Carrying.{IsCarriedOn, one_carried}
use Rattle.fleet_turns.proofs.Turning.{stands_well}

-- the node before the call, once it was raised, and after it
pub record IsThere {K : Type 0} (r : ℕ) (makes : NodeView K → NodeView K → Type 0) (was after : FleetView K) (g : DriverInput) (d : Driver) : Type 0 where
  pub before : NodeView K
  pub left : NodeView K
  pub at : slice_get was.nodes r ≡ Some before
  pub one : OneTurns r before left was after
  pub well : StandsWell g d r before
  pub holds : makes (with_newest d before) left
  pub early : left.time ≤ 1000000000000
  pub few : left.count < 2 ^ 62

pub is_there : {K : Type 0} (tells : K → StoreView) (r had : ℕ) (makes : NodeView K → NodeView K → Type 0) (was up : FleetView K) (turned carried : List (NodeView K)) (after : FleetView K) → r < length was.nodes
    → IsCarriedOn tells r had was up turned carried after → AtNode r up.nodes turned makes → (g : DriverInput) (d : Driver) → HasCome tells g d was → IsThere r makes was after g d
is_there {K} tells r had makes was up turned carried after there call holds g d come = record {
  before = first.0;
  left = third.0;
  at = first.1;
  one = one_carried tells r had was up turned carried after first.0 second.0 third.0 fourth.0 call first.1 second.1 third.1 fourth.1;
  well = stands_well tells g d r had was up first.0 second.0 come call.raises first.1 second.1;
  holds = subst (λ (y : NodeView K). makes y third.0) up_is (holds second.0 third.0 second.1 third.1);
  early = subst (λ (y : NodeView K). y.time ≤ 1000000000000) left_is (call.told.node fourth.0 fourth.1).time;
  few = subst (λ (y : NodeView K). y.count < 2 ^ 62) left_is (call.told.node fourth.0 fourth.1).counted;
}
  where
    first : (n : NodeView K) × (slice_get was.nodes r ≡ Some n)
    first = slice_get-within was.nodes r there

    second : (p : NodeView K) × (slice_get up.nodes r ≡ Some p)
    second = slice_get-within up.nodes r (subst (λ (c : ℕ). r < c) (sym call.raises.count) there)

    third : (m : NodeView K) × (slice_get turned r ≡ Some m)
    third = slice_get-within turned r (subst (λ (c : ℕ). r < c) (sym (call.count ∙ call.raises.count)) there)

    fourth : (x : NodeView K) × (slice_get carried r ≡ Some x)
    fourth = slice_get-within carried r (subst (λ (c : ℕ). r < c) (sym (call.carried_count ∙ (call.count ∙ call.raises.count))) there)

    up_is : second.0 ≡ with_newest d first.0
    up_is = raised_is tells g d r had was up first.0 second.0 come call.raises first.1 second.1

    left_is : fourth.0 ≡ joined.with_links third.0 fourth.0.parts.links
    left_is = call.rest third.0 fourth.0 third.1 fourth.1
