-- The law.
use Rattle.running_jobs.proofs.Beginning.{works_stay_at_faults}
use Rattle.running_jobs.proofs.laws.jobs_stay_where_lines_fail.Goals as goal

pub returns : goal.returns
returns c = works_stay_at_faults
