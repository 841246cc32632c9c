-- What the proof of `flight::Flight::take` needs beside the tactics.
use Rattle.std.proofs.Common.{◌≡◌, ℕ, List, drop, map, ap, ◌∙◌}
use Rattle.step_judging.specs.Carried as carried
use Rattle.step_judging.specs.Carried.{WaitingFrame}
use Rattle.state_flights.specs.Tables.{waiting_frame}
use Rattle.state_flights.specs.declared.flight.Waiting.{Waiting}
use Rattle.state_flights.proofs.FlightLemmas.{rest_is}
use Rattle.state_flights.proofs.flight.Flight.take.Goals as goal

pub returns-clause-flight : goal.returns-clause-flight
returns-clause-flight c =
    let was = c.args.self.now in
    let flight : List WaitingFrame → ℕ → carried.Flight = λ xs n. record { waiting = xs; taken = n } in
    let rest : map waiting_frame c.pop_front.new.self.items ≡ drop 1 (map waiting_frame was.waiting.items) = ap (map waiting_frame) c.pop_front.ensures.rest ∙ rest_is was.waiting.items in
    ap (λ xs. flight xs c.args.seq) rest ∙ ap (flight (drop 1 (map waiting_frame was.waiting.items))) c.requires
