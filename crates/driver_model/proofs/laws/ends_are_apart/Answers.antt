-- The ends of a repository, and of a job.
use Rattle.driver_model.proofs.EndsApart.{all_apart, job_ends_apart}
use Rattle.driver_model.proofs.laws.ends_are_apart.Goals as goal

pub returns-clause-all : goal.returns-clause-all
returns-clause-all c = all_apart

pub returns-clause-job : goal.returns-clause-job
returns-clause-job c = job_ends_apart
