-- What the proof of `table::is_next` needs beside the tactics.
use Rattle.std.proofs.Common.{Option, ap, ◌∙◌}
use Rattle.step_judging.specs.Carried.{is_first}
use Rattle.state_flights.specs.Tables.{flight_found}
use Rattle.state_flights.specs.declared.flight.Flight.{Flight}
use Rattle.state_flights.proofs.table.is_next.Goals as goal

pub returns-in-Some : goal.returns-in-Some
returns-in-Some c = c.is_next.ensures ∙ ap (λ (o : Option Flight). is_first (flight_found o).waiting (flight_found o).taken c.args.frame.now) c.in-Some.ensures.value
