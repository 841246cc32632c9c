-- What is sent next, of a state that the session and the store are.
use Rattle.std.proofs.Common.{sym, ap, ◌∙◌}
use Rattle.node_model.specs.Sessions as sessions
use Rattle.node_model.specs.SessionStep.{gives_next, here}
use Rattle.session_state.specs.Talking.{doing_of}
use Rattle.p2p_server.proofs.session.Session.more.Goals as goal

pub returns-clause-step : goal.returns-clause-step
returns-clause-step g c = λ s st k a contents at told sizes same fails.
    ap (λ (t : sessions.Session). gives_next (here s st k a) t.doing) same ∙ ap (λ d. gives_next (here s st k a) (doing_of d)) c.in-Gives.is
    ∙ c.in_ok-more.ensures.does contents told (here s st k a) at (sym (sizes _)) fails
