-- What a session makes.
use Rattle.node_sessions.proofs.Making.{step_own}
use Rattle.node_sessions.proofs.laws.sessions_make_their_own_entries.Goals as goal

pub returns : goal.returns
returns c = step_own
