-- A session has a step where one has something to do.
use Rattle.std.proofs.Common.{List, ◌∙◌, sym, subst}
use Rattle.p2p_server.specs.declared.session.Session.{Session}
use Rattle.node_sessions.specs.Turns.{IsFirst}
use Rattle.node_sessions.proofs.Stepping.{is_made}
use Rattle.node_sessions.proofs.sessions.Sessions.is_ready.Goals as goal

pub returns-clause-ready : goal.returns-clause-ready
returns-clause-ready c = λ s st k ends look are.
    is_made c.frames_wait_at_ends.ensures c.args.ends.now c.args.self.now c.first_turn.result c.requires.there
    (subst (λ (xs : List Session). IsFirst c.args.ends.now xs c.first_turn.result) (c.deref.ensures.value ∙ c.self.view_is) c.first_turn.ensures.first) s st k ends look are
    ∙ sym c.is_some.ensures
