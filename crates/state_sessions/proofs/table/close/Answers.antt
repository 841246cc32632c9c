-- What the proof of `table::close` needs beside the tactics.
use Rattle.std.proofs.Common.{◌&&◌, ◌==◌}
use Rattle.std.specs.Map.{lookup}
use Rattle.state_ends.specs.Sides.{same_connection}
use Rattle.state_ends.specs.declared.side.Connection.{Connection}
use Rattle.state_sessions.proofs.SessionLemmas.{taken_out}
use Rattle.state_sessions.proofs.table.close.Goals as goal

pub returns-clause-session : goal.returns-clause-session
returns-clause-session c = λ peer slot.
    let at : Connection = record { peer = peer; slot = slot } in
    taken_out ((c.args.at.peer == peer) && (c.args.at.slot == slot))
    (lookup (same_connection at) c.args.table.now.entries) (lookup (same_connection at) c.swap_remove.new.self.entries) (c.swap_remove.ensures.updates.0 at)
