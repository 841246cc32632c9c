-- What the proof of `flights::Flights::is_next` needs beside the tactics.
use Rattle.std.proofs.Common.{ap, ◌∙◌}
use Rattle.run_model.specs.Frames.{way_of}
use Rattle.step_judging.specs.Carried as carried
use Rattle.step_judging.specs.Carried.{is_first}
use Rattle.state_flights.specs.Tables.{flight_at}
use Rattle.state_flights.proofs.WayLemmas.{there_down, there_up}
use Rattle.state_flights.proofs.flights.Flights.is_next.Goals as goal

pub returns-then-frame : goal.returns-then-frame
returns-then-frame c =
    let x = c.args.self.now in
    c.is_next.ensures ∙ ap (λ (x : carried.Flight). is_first x.waiting x.taken c.args.frame.now) (there_up (flight_at x.up.entries) (flight_at x.down.entries) (way_of c.args.repo c.args.frame.now) c.opening_taken-at.result c.opening_taken-at.ensures c.if-frame.true)

pub returns-else-frame : goal.returns-else-frame
returns-else-frame c =
    let x = c.args.self.now in
    c.is_next-else-frame.ensures ∙ ap (λ (x : carried.Flight). is_first x.waiting x.taken c.args.frame.now) (there_down (flight_at x.up.entries) (flight_at x.down.entries) (way_of c.args.repo c.args.frame.now) c.opening_taken-at.result c.opening_taken-at.ensures c.if-frame.false)
