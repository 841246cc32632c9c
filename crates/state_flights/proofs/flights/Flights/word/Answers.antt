-- What the proof of `flights::Flights::word` needs beside the tactics.
use Rattle.std.proofs.Common.{ap, ◌∙◌}
use Rattle.run_model.specs.Frames.{way_of}
use Rattle.step_judging.specs.Carried as carried
use Rattle.step_judging.specs.Carried.{first_word}
use Rattle.state_flights.specs.Tables.{flight_at}
use Rattle.state_flights.proofs.WayLemmas.{there_down, there_up}
use Rattle.state_flights.proofs.flights.Flights.word.Goals as goal

pub returns-then-frame : goal.returns-then-frame
returns-then-frame c =
    let x = c.args.self.now in
    c.word.ensures ∙ ap (λ (x : carried.Flight). first_word x.waiting) (there_up (flight_at x.up.entries) (flight_at x.down.entries) (way_of c.args.repo c.args.frame.now) c.opening_taken-at.result c.opening_taken-at.ensures c.if-frame.true)

pub returns-else-frame : goal.returns-else-frame
returns-else-frame c =
    let x = c.args.self.now in
    c.word-else-frame.ensures ∙ ap (λ (x : carried.Flight). first_word x.waiting) (there_down (flight_at x.up.entries) (flight_at x.down.entries) (way_of c.args.repo c.args.frame.now) c.opening_taken-at.result c.opening_taken-at.ensures c.if-frame.false)
