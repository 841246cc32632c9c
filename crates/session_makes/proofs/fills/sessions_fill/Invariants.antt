-- What holds at each turn of the loops of `fills::sessions_fill`.
use Rattle.std.proofs.Common.{◌≡◌, ℕ, ◌<◌, false, not, ◌&&◌, ◌==◌}
use Rattle.std.specs.List.{list_any}
use Rattle.node_model.specs.Ends.{server_end}
use Rattle.node_model.specs.SessionStep.{session_fills}
use Rattle.node_model.specs.SetUp.{SetUp, slots}
use Rattle.node_model.specs.State.{State}
use Rattle.step_state.specs.States.{IsStateOf}
use Rattle.session_makes.proofs.fills.sessions_fill.Given as goal

abbrev pub invariant-loop-peer : goal.invariant-loop-peer
invariant-loop-peer l = (s : SetUp) (st : State) → IsStateOf l.state s st
    → (x : ℕ) → x < l.peer → (not (x == l.own) && list_any (λ slot. session_fills st l.key (server_end x slot)) slots) ≡ false
