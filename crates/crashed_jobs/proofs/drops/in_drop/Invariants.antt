-- What holds at each turn of the loops of `drops::in_drop`.
use Rattle.std.proofs.Common.{◌≡◌, length, reverse}
use Rattle.run_model.specs.Logs.{in_drop}
use Rattle.crashed_jobs.proofs.drops.in_drop.Given as goal

abbrev pub invariant-loop-last : goal.invariant-loop-last
invariant-loop-last l = in_drop (reverse l.before) l.repo l.job ≡ in_drop (reverse l.rest) l.repo l.job

abbrev pub decreases-loop-last : goal.decreases-loop-last
decreases-loop-last l = length l.rest
