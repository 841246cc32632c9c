-- The law.
use Rattle.running_jobs.proofs.Seeing.{has_part}
use Rattle.running_jobs.proofs.laws.jobs_see_parts.Goals as goal

pub returns : goal.returns
returns c = has_part c.verdicts_are_matches.ensures
