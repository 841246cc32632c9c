-- What the proof of `table::reserve` needs beside the tactics.
use Rattle.std.proofs.Common.{◌≡◌, ◌≤◌, ◌+◌, List, ap, ◌∙◌, arith}
use Rattle.step_judging.specs.Carried as carried
use Rattle.state_flights.specs.Tables.{flight_at, flight_of, room_at, room_of}
use Rattle.state_flights.specs.Ways.{same_opening}
use Rattle.state_flights.proofs.TableLemmas.{put_back, room_left}
use Rattle.state_flights.proofs.table.reserve.Goals as goal

pub returns-clause-same : goal.returns-clause-same
returns-clause-same c = λ other.
    put_back (flight_at c.reserve.new.self.entries) (flight_at c.take_out-flight.new.table.entries) (flight_at c.put.new.table.entries) c.args.at (flight_of c.reserve-reserved.new.self)
    c.take_out-flight.ensures.out c.put.ensures.flight (c.reserve-reserved.ensures.same ∙ c.take_out-flight.ensures.value) other
    ∙ ap (λ entries. flight_at entries other) c.reserve.ensures.entries

pub returns-clause-more : goal.returns-clause-more
returns-clause-more c = λ other.
    let had = c.take_out-flight.ensures.had in
    let more = c.reserve-reserved.ensures.more in
    let left = room_left (room_at c.reserve.new.self.entries) (room_at c.take_out-flight.new.table.entries) (room_at c.put.new.table.entries) c.args.at (room_of c.reserve-reserved.new.self) 0
    c.take_out-flight.ensures.others c.put.ensures.frames (omega (arith, had, more)) other in
    let was = ap (λ entries. room_at entries other) c.reserve.ensures.entries in
    omega (arith, left, was)
