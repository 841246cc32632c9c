-- A node that was told of the driver's newest entry.
use Rattle.std.proofs.Common.{◌≡◌, ℕ, ◌≤◌, arith}
use Rattle.std.specs.Prelude.{max}
use Rattle.run_model.specs.Past.{now}
use Rattle.driver_model.specs.Driver.{Driver, DriverInput, newest_count}
use Rattle.joined_nodes.specs.Nodes.{NodeView}
use Rattle.fleet_model.specs.Fleets.{IsNodeOf}
use Rattle.fleet_model.specs.Steps.{with_newest}
use Rattle.joined_nodes.specs.Stored.{StoreView}
use Rattle.fleet_model.proofs.Noting.{IsRaised}

greater : (n m : ℕ) → n ≤ m → max n m ≡ m
greater n m less = grind arith

pub raised_is : {K : Type 0} (tells : K → StoreView) (g : DriverInput) (d : Driver) (r : ℕ) (n : NodeView K) → IsNodeOf tells g d r n → IsRaised tells g d r (with_newest d n)
raised_is tells g d r n is = record {
  entries = record { setup = is.setup; history = is.history; branch = is.branch; time = greater n.time (now d.past) is.time; count = greater n.count (newest_count d.past) is.count };
  store = is.store;
}
