-- None before this place has the client and slot.
use Rattle.std.proofs.Common.{◌≡◌, ℕ, ◌<◌, Some}
use Rattle.std.specs.Prelude.{slice_get}
use Rattle.p2p_server.specs.declared.session.Session.{Session}
use Rattle.node_sessions.specs.Sessions.{connection_of}
use Rattle.node_sessions.proofs.ending.find_session.Given as goal

abbrev pub invariant-loop-at : goal.invariant-loop-at
invariant-loop-at l = (i : ℕ) (x : Session) → i < l.at → slice_get l.sessions i ≡ Some x → connection_of x ≡ (l.peer, l.slot) → ⊥
