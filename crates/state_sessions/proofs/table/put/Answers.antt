-- What the proof of `table::put` needs beside the tactics.
use Rattle.std.proofs.Common.{◌&&◌, ◌==◌}
use Rattle.std.specs.Map.{lookup}
use Rattle.state_ends.specs.Sides.{same_connection}
use Rattle.state_ends.specs.declared.side.Connection.{Connection}
use Rattle.state_sessions.proofs.SessionLemmas.{put_in}
use Rattle.state_sessions.proofs.table.put.Goals as goal

pub returns-clause-session : goal.returns-clause-session
returns-clause-session c = λ peer slot.
    let updates = rw c.unwrap.ensures at c.insert.ensures.updates in
    let at : Connection = record { peer = peer; slot = slot } in
    put_in ((c.args.at.peer == peer) && (c.args.at.slot == slot)) c.args.session
    (lookup (same_connection at) c.args.table.now.entries) (lookup (same_connection at) c.insert.new.self.entries) (updates.0 at)
