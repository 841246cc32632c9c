-- No entry changes which job a running job is.
use Rattle.step_facts.proofs.JobKept.{after_kept}
use Rattle.step_facts.proofs.jobs.running_jobs_stay_the_same.Goals as goal

pub returns : goal.returns
returns c = after_kept
