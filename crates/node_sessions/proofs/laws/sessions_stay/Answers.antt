-- Sessions at whose ends nothing happens.
use Rattle.node_sessions.proofs.Shutting.{sessions_kept}
use Rattle.node_sessions.proofs.laws.sessions_stay.Goals as goal

pub returns : goal.returns
returns c = sessions_kept
