-- The law.
use Rattle.node_parts.proofs.Staying.{logs_of_lines, made_of_length}
use Rattle.node_parts.proofs.laws.states_have_their_settings.Goals as goal

pub returns-clause-logs : goal.returns-clause-logs
returns-clause-logs c = logs_of_lines

pub returns-clause-made : goal.returns-clause-made
returns-clause-made c = made_of_length
