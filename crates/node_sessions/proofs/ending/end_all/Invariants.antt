-- These are left.
use Rattle.std.proofs.Common.{vec_len}
use Rattle.node_sessions.specs.Built.{AreLeft}
use Rattle.node_sessions.proofs.ending.end_all.Given as goal

abbrev pub invariant-loop-session : goal.invariant-loop-session
invariant-loop-session l = AreLeft l.fn.sessions.items l.sessions.items l.fn.table l.table

abbrev pub decreases-loop-session : goal.decreases-loop-session
decreases-loop-session l = vec_len l.sessions
