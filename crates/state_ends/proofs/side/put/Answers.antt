-- What the proof of `side::put` needs beside the tactics.
use Rattle.std.proofs.Common.{◌&&◌, ◌==◌}
use Rattle.std.specs.Map.{lookup}
use Rattle.state_ends.specs.Sides.{same_connection}
use Rattle.state_ends.specs.declared.side.Connection.{Connection}
use Rattle.state_ends.proofs.EndLemmas.{put_in}
use Rattle.state_ends.proofs.side.put.Goals as goal

pub returns-clause-end : goal.returns-clause-end
returns-clause-end c = λ peer slot.
    let updates = rw c.unwrap.ensures at c.insert.ensures.updates in
    let at : Connection = record { peer = peer; slot = slot } in
    put_in ((c.args.at.peer == peer) && (c.args.at.slot == slot)) c.args.standing
    (lookup (same_connection at) c.args.side.now.entries) (lookup (same_connection at) c.insert.new.self.entries) (updates.0 at)
