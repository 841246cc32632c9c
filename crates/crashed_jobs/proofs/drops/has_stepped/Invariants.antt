-- What holds at each turn of the loops of `drops::has_stepped`.
use Rattle.std.proofs.Common.{◌≡◌, length, reverse}
use Rattle.run_model.specs.Logs.{has_stepped}
use Rattle.crashed_jobs.proofs.drops.has_stepped.Given as goal

abbrev pub invariant-loop-last : goal.invariant-loop-last
invariant-loop-last l = has_stepped (reverse l.before) l.repo l.job ≡ has_stepped (reverse l.rest) l.repo l.job

abbrev pub decreases-loop-last : goal.decreases-loop-last
decreases-loop-last l = length l.rest
