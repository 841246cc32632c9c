-- What holds at each turn of the loops of `jobs::jobs_of`.
use Rattle.std.proofs.Common.{◌≤◌, ◌+◌, length, take, reverse}
use Rattle.storm_line.specs.Running.{HasCounted}
use Rattle.storm_line.proofs.jobs.jobs_of.Given as goal

abbrev pub invariant-loop-entry : goal.invariant-loop-entry
invariant-loop-entry l = HasCounted l.jobs (reverse (take l.entry-index l.entries)) l.repo × (l.jobs.done + l.jobs.refused + length l.jobs.running.items ≤ l.entry-index)
