-- Ends in flight are carried.
use Rattle.link_flights.proofs.Carried.{stays_carried}
use Rattle.link_flights.proofs.laws.ends_in_flight_are_carried.Goals as goal

pub returns : goal.returns
returns c d r a v w own other = stays_carried d.flights r a v w own other
