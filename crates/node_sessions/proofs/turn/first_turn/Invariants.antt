-- The sessions before this place have nothing to do.
use Rattle.std.proofs.Common.{◌≡◌, ℕ, ◌<◌, Some, None}
use Rattle.std.specs.Prelude.{slice_get}
use Rattle.p2p_server.specs.declared.session.Session.{Session}
use Rattle.node_sessions.specs.Turns.{turn_at}
use Rattle.node_sessions.proofs.turn.first_turn.Given as goal

abbrev pub invariant-loop-at : goal.invariant-loop-at
invariant-loop-at l = record {
  same : l.ends ≡ l.fn.ends;
  before : (i : ℕ) (x : Session) → i < l.at → slice_get l.sessions i ≡ Some x → turn_at l.fn.ends x ≡ None;
}
