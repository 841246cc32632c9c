-- The keys that a state fills.
use Rattle.node_sessions.proofs.Keys.{state_fills}
use Rattle.node_sessions.proofs.laws.sessions_and_jobs_fill.Goals as goal

pub returns : goal.returns
returns c = state_fills
