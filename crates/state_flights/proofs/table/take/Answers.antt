-- What the proof of `table::take` needs beside the tactics.
use Rattle.std.proofs.Common.{◌≡◌, ◌+◌, ◌≤◌, true, refl, sym, ap, ◌∙◌, arith}
use Rattle.step_judging.specs.Carried as carried
use Rattle.step_judging.specs.Carried.{flight_took}
use Rattle.state_flights.specs.Tables.{flight_at, flight_of, room_at, room_of}
use Rattle.state_flights.proofs.TableLemmas.{replaced, room_left}
use Rattle.state_flights.proofs.table.take.Goals as goal

pub take-requires : goal.take-requires
take-requires c = c.requires.next ∙ ap (λ (x : carried.Flight). x.taken + 1) (sym c.take_out-flight.ensures.value)

pub returns-clause-flight : goal.returns-clause-flight
returns-clause-flight c =
    replaced (flight_at c.args.table.now.entries) (flight_at c.take_out-flight.new.table.entries) (flight_at c.put.new.table.entries) c.args.at (flight_of c.take.new.self) flight_took (λ y. refl)
    c.take_out-flight.ensures.out c.put.ensures.flight (c.take.ensures.flight ∙ ap (flight_took true) c.take_out-flight.ensures.value)

pub returns-clause-frames : goal.returns-clause-frames
returns-clause-frames c = λ other.
    let had = c.take_out-flight.ensures.had in
    let more = c.take.ensures.room in
    let left = room_left (room_at c.args.table.now.entries) (room_at c.take_out-flight.new.table.entries) (room_at c.put.new.table.entries) c.args.at (room_of c.take.new.self) 0
    c.take_out-flight.ensures.others c.put.ensures.frames (omega (arith, had, more)) other in
    omega (arith, left)
