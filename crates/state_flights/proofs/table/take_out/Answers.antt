-- What the proof of `table::take_out` needs beside the tactics.
use Rattle.std.specs.Map.{lookup}
use Rattle.state_flights.specs.Ways.{same_opening}
use Rattle.state_flights.proofs.TableLemmas.{room_out, taken_out}
use Rattle.state_flights.proofs.table.take_out.Goals as goal

pub returns-in-Some-clause-out : goal.returns-in-Some-clause-out
returns-in-Some-clause-out c = λ other.
    taken_out (same_opening c.args.at other) (lookup (same_opening other) c.args.table.now.entries) (lookup (same_opening other) c.swap_remove.new.self.entries) (c.swap_remove.ensures.updates.0 other)

pub returns-in-Some-clause-others : goal.returns-in-Some-clause-others
returns-in-Some-clause-others c = λ other.
    room_out (same_opening c.args.at other) (lookup (same_opening other) c.args.table.now.entries) (lookup (same_opening other) c.swap_remove.new.self.entries) (c.swap_remove.ensures.updates.0 other)

pub returns-in-None-clause-out : goal.returns-in-None-clause-out
returns-in-None-clause-out c = λ other.
    taken_out (same_opening c.args.at other) (lookup (same_opening other) c.args.table.now.entries) (lookup (same_opening other) c.swap_remove.new.self.entries) (c.swap_remove.ensures.updates.0 other)

pub returns-in-None-clause-others : goal.returns-in-None-clause-others
returns-in-None-clause-others c = λ other.
    room_out (same_opening c.args.at other) (lookup (same_opening other) c.args.table.now.entries) (lookup (same_opening other) c.swap_remove.new.self.entries) (c.swap_remove.ensures.updates.0 other)
