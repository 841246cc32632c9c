-- What the proof of `table::put` needs beside the tactics.
use Rattle.std.specs.Map.{lookup}
use Rattle.state_flights.specs.Ways.{same_opening}
use Rattle.state_flights.proofs.TableLemmas.{put_in, room_put}
use Rattle.state_flights.proofs.table.put.Goals as goal

pub returns-clause-flight : goal.returns-clause-flight
returns-clause-flight c = λ other.
    let updates = rw c.unwrap.ensures at c.insert.ensures.updates in
    put_in (same_opening c.args.at other) c.args.flight (lookup (same_opening other) c.args.table.now.entries) (lookup (same_opening other) c.insert.new.self.entries) (updates.0 other)

pub returns-clause-frames : goal.returns-clause-frames
returns-clause-frames c = λ other.
    let updates = rw c.unwrap.ensures at c.insert.ensures.updates in
    room_put (same_opening c.args.at other) c.args.flight (lookup (same_opening other) c.args.table.now.entries) (lookup (same_opening other) c.insert.new.self.entries) (updates.0 other)
