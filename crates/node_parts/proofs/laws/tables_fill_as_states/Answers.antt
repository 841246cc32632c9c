-- The law.
use Rattle.node_parts.proofs.Served.{table_fills}
use Rattle.node_parts.proofs.laws.tables_fill_as_states.Goals as goal

pub returns : goal.returns
returns c = table_fills c.sessions_and_jobs_fill.ensures
