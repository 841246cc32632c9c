-- The law.
use Rattle.node_parts.proofs.Staying.{parts_stay_so}
use Rattle.node_parts.proofs.laws.parts_stay.Goals as goal

pub returns : goal.returns
returns c = parts_stay_so c.ends_go_on.ensures.ends c.ends_go_on.ensures.begin c.sessions_stay.ensures c.jobs_stay.ensures c.jobs_stay_where_lines_fail.ensures
