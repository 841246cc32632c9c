-- What holds at each turn of the loops of `sending::close_all`.
use Rattle.std.proofs.Common.{◌≡◌, ℕ, take}
use Rattle.node_model.specs.Ends.{sent_at, server_end}
use Rattle.node_model.specs.Sessions.{sends_close, session_left}
use Rattle.state_sessions.specs.Tables.{session_in}
use Rattle.state_sessions.proofs.sending.close_all.Given as goal

abbrev pub invariant-loop-frame : goal.invariant-loop-frame
invariant-loop-frame l = (peer slot : ℕ) → session_in l.table.entries peer slot ≡ session_left (sends_close (sent_at (server_end peer slot) (take l.frame-index l.frames))) (session_in l.initial.table.entries peer slot)
