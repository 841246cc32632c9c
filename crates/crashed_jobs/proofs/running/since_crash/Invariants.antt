-- What holds at each turn of the loops of `running::since_crash`.
use Rattle.std.proofs.Common.{◌≡◌, ◌++◌, drop, length}
use Rattle.crashed_jobs.proofs.running.since_crash.Given as goal

abbrev pub invariant-loop-last : goal.invariant-loop-last
invariant-loop-last l = l.before ≡ l.rest ++ drop (length l.rest) l.before

abbrev pub decreases-loop-last : goal.decreases-loop-last
decreases-loop-last l = length l.rest
