-- What the proof of `table::take_out` needs beside the tactics.
use Rattle.std.proofs.Common.{◌&&◌, ◌==◌}
use Rattle.std.specs.Map.{lookup}
use Rattle.state_ends.specs.Sides.{same_connection}
use Rattle.state_ends.specs.declared.side.Connection.{Connection}
use Rattle.state_sessions.proofs.SessionLemmas.{taken_out}
use Rattle.state_sessions.proofs.table.take_out.Goals as goal

pub returns-in-Some-clause-out : goal.returns-in-Some-clause-out
returns-in-Some-clause-out c = λ peer slot.
    let at : Connection = record { peer = peer; slot = slot } in
    taken_out ((c.args.at.peer == peer) && (c.args.at.slot == slot))
    (lookup (same_connection at) c.args.table.now.entries) (lookup (same_connection at) c.swap_remove.new.self.entries) (c.swap_remove.ensures.updates.0 at)
