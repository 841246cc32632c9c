-- Those before this place are closed.
use Rattle.node_sessions.specs.Built.{AreClosed}
use Rattle.node_sessions.proofs.ending.close_all.Given as goal

abbrev pub invariant-loop-at : goal.invariant-loop-at
invariant-loop-at l = AreClosed l.at l.fn.sessions.items l.sessions.items l.fn.table l.table
