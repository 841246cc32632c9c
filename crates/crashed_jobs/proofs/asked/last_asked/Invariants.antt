-- What holds at each turn of the loops of `asked::last_asked`.
use Rattle.std.proofs.Common.{◌≡◌, length}
use Rattle.crashed_jobs.specs.Looks.{last_asked}
use Rattle.crashed_jobs.proofs.asked.last_asked.Given as goal

abbrev pub invariant-loop-last : goal.invariant-loop-last
invariant-loop-last l = last_asked l.frame l.sent ≡ last_asked l.frame l.rest

abbrev pub decreases-loop-last : goal.decreases-loop-last
decreases-loop-last l = length l.rest
