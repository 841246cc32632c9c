-- What the proof of `flight::Flight::is_next` needs beside the tactics.
use Rattle.std.proofs.Common.{sym, ◌∙◌}
use Rattle.state_flights.proofs.FlightLemmas.{next_is, none_next}
use Rattle.state_flights.proofs.flight.Flight.is_next.Goals as goal

pub returns-in-Some : goal.returns-in-Some
returns-in-Some c = c.is_front.ensures ∙ sym (next_is c.args.self.now.waiting.items c.in-Some.first.now c.args.self.now.taken c.args.frame.now c.in-Some.ensures)

pub returns-in-None : goal.returns-in-None
returns-in-None c = sym (none_next c.args.self.now.waiting.items c.args.self.now.taken c.args.frame.now c.in-None.ensures)
