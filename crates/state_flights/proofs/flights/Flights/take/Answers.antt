-- What the proof of `flights::Flights::take` needs beside the tactics.
use Rattle.std.proofs.Common.{◌≡◌, ◌+◌, ◌≤◌, refl, sym, ap, ◌∙◌, arith}
use Rattle.run_model.specs.Frames.{way_of}
use Rattle.step_judging.specs.Carried as carried
use Rattle.step_judging.specs.Carried.{flight_took}
use Rattle.state_flights.specs.Flights.{flight_on}
use Rattle.state_flights.specs.Tables.{flight_at, room_at}
use Rattle.state_flights.specs.Ways.{opening_of, same_opening}
use Rattle.state_flights.specs.declared.opening.Opening.{Opening}
use Rattle.state_flights.proofs.WayLemmas.{down_changes, down_left, next_number, there_down, there_up, up_changes, up_left}
use Rattle.state_flights.proofs.flights.Flights.take.Goals as goal

pub take-requires-clause-next : goal.take-requires-clause-next
take-requires-clause-next c =
    let x = c.args.self.now in
    let w = way_of c.args.repo c.args.frame.now in
    next_number (flight_on x w).waiting (flight_on x w).taken c.args.frame.now c.requires.next
    ∙ ap (λ (y : carried.Flight). y.taken + 1) (sym (there_up (flight_at x.up.entries) (flight_at x.down.entries) w c.opening_taken-at.result c.opening_taken-at.ensures c.if-frame.true))

pub take-requires-else-frame-clause-next : goal.take-requires-else-frame-clause-next
take-requires-else-frame-clause-next c =
    let x = c.args.self.now in
    let w = way_of c.args.repo c.args.frame.now in
    next_number (flight_on x w).waiting (flight_on x w).taken c.args.frame.now c.requires.next
    ∙ ap (λ (y : carried.Flight). y.taken + 1) (sym (there_down (flight_at x.up.entries) (flight_at x.down.entries) w c.opening_taken-at.result c.opening_taken-at.ensures c.if-frame.false))

pub returns-then-frame-clause-flight : goal.returns-then-frame-clause-flight
returns-then-frame-clause-flight c =
    let x = c.args.self.now in
    let w = way_of c.args.repo c.args.frame.now in
    up_changes flight_took (λ y. refl) (flight_at x.up.entries) (flight_at c.take.new.table.entries) w
    (λ other. c.take.ensures.flight other ∙ ap (λ (at : Opening). flight_took (same_opening at other) (flight_at x.up.entries other)) c.opening_taken-at.ensures)
    (flight_at x.down.entries) c.if-frame.true

pub returns-else-frame-clause-flight : goal.returns-else-frame-clause-flight
returns-else-frame-clause-flight c =
    let x = c.args.self.now in
    let w = way_of c.args.repo c.args.frame.now in
    down_changes flight_took (λ y. refl) (flight_at x.down.entries) (flight_at c.take-else-frame.new.table.entries) w
    (λ other. c.take-else-frame.ensures.flight other ∙ ap (λ (at : Opening). flight_took (same_opening at other) (flight_at x.down.entries other)) c.opening_taken-at.ensures)
    (flight_at x.up.entries) c.if-frame.false

pub returns-then-frame-clause-frames : goal.returns-then-frame-clause-frames
returns-then-frame-clause-frames c =
    let x = c.args.self.now in
    up_left 0 (room_at x.up.entries) (room_at c.take.new.table.entries) (room_at x.down.entries) (λ other. let more = c.take.ensures.frames other in omega (arith, more))

pub returns-else-frame-clause-frames : goal.returns-else-frame-clause-frames
returns-else-frame-clause-frames c =
    let x = c.args.self.now in
    down_left 0 (room_at x.down.entries) (room_at c.take-else-frame.new.table.entries) (room_at x.up.entries) (λ other. let more = c.take-else-frame.ensures.frames other in omega (arith, more))
