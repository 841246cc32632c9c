-- A session of an end that is closed.
use Rattle.node_sessions.proofs.Shutting.{shut_some}
use Rattle.node_sessions.proofs.laws.sessions_of_closed_ends_are_new.Goals as goal

pub returns : goal.returns
returns c = shut_some
