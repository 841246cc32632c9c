-- The law.
use Rattle.node_parts.proofs.Staying.{bar_same, holds_same}
use Rattle.node_parts.proofs.laws.direct_entries_leave_rows.Goals as goal

pub returns-clause-holds : goal.returns-clause-holds
returns-clause-holds c = holds_same

pub returns-clause-bars : goal.returns-clause-bars
returns-clause-bars c = bar_same
