-- What the proof of `table::push` needs beside the tactics.
use Rattle.std.proofs.Common.{◌≡◌, ◌<◌, ◌+◌, ◌≤◌, true, [], ◌∷◌, refl, sym, ap, ◌∙◌, arith}
use Rattle.step_judging.specs.Carried as carried
use Rattle.step_judging.specs.Carried.{flight_sent}
use Rattle.state_flights.specs.Tables.{flight_at, flight_of, room_at, room_of, waiting_frame}
use Rattle.state_flights.proofs.TableLemmas.{replaced, room_left}
use Rattle.state_flights.proofs.table.push.Goals as goal

pub push-requires : goal.push-requires
push-requires c =
    let had = c.take_out-flight.ensures.had in
    let some = c.requires.frame in
    omega (arith, had, some)

pub returns-clause-flight : goal.returns-clause-flight
returns-clause-flight c =
    let new = waiting_frame c.args.waiting ∷ [] in
    replaced (flight_at c.args.table.now.entries) (flight_at c.take_out-flight.new.table.entries) (flight_at c.put.new.table.entries) c.args.at (flight_of c.push.new.self) (λ b y. flight_sent b new y) (λ y. refl)
    c.take_out-flight.ensures.out c.put.ensures.flight (c.push.ensures.flight ∙ ap (flight_sent true new) c.take_out-flight.ensures.value)

pub returns-clause-frames : goal.returns-clause-frames
returns-clause-frames c =
    let had = c.take_out-flight.ensures.had in
    let less = c.push.ensures.room in
    room_left (room_at c.args.table.now.entries) (room_at c.take_out-flight.new.table.entries) (room_at c.put.new.table.entries) c.args.at (room_of c.push.new.self) 1
    c.take_out-flight.ensures.others c.put.ensures.frames (omega (arith, had, less))
