-- The law.
use Rattle.running_jobs.proofs.Beginning.{works_stay_so}
use Rattle.running_jobs.proofs.laws.jobs_stay.Goals as goal

pub returns : goal.returns
returns c = works_stay_so
