-- The law.
use Rattle.running_jobs.proofs.FirstSteps.{makes_own}
use Rattle.running_jobs.proofs.laws.jobs_make_their_own_entries.Goals as goal

pub returns : goal.returns
returns c s st k jobs m are fit is = makes_own s st k jobs m are c.jobs_make_their_own_entries.ensures.own is
