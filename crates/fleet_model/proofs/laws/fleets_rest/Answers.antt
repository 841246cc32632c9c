-- A fleet rests.
use Rattle.fleet_model.proofs.Resting.{rested}
use Rattle.fleet_model.proofs.laws.fleets_rest.Goals as goal

pub returns : goal.returns
returns g c = rested c.ends_in_flight_are_carried.ensures c.fleets_take_turns.ensures.idle
