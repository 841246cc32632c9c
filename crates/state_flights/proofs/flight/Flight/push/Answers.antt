-- What the proof of `flight::Flight::push` needs beside the tactics.
use Rattle.std.proofs.Common.{List, [], ◌∷◌, map, ap, ◌∙◌}
use Rattle.step_judging.specs.Carried as carried
use Rattle.step_judging.specs.Carried.{WaitingFrame}
use Rattle.state_flights.specs.Tables.{waiting_frame}
use Rattle.state_flights.proofs.FlightLemmas.{pushed}
use Rattle.state_flights.proofs.flight.Flight.push.Goals as goal

pub returns-clause-flight : goal.returns-clause-flight
returns-clause-flight c =
    let was = c.args.self.now in
    let flight : List WaitingFrame → carried.Flight = λ xs. record { waiting = xs; taken = was.taken } in
    ap flight (ap (map waiting_frame) c.push_back_reserved.ensures.items ∙ pushed was.waiting.items (c.args.waiting ∷ []))
