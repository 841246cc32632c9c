-- The law.
use Rattle.running_jobs.proofs.Nameless.{nameless_asked}
use Rattle.running_jobs.proofs.laws.nameless_are_asked.Goals as goal

pub returns : goal.returns
returns c = nameless_asked c.readings_are_exact.ensures.nothing
