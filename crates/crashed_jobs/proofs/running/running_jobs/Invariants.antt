-- What holds at each turn of the loops of `running::running_jobs`.
use Rattle.std.proofs.Common.{◌≡◌, take, reverse}
use Rattle.run_model.specs.Past.{jobs}
use Rattle.crashed_jobs.proofs.running.running_jobs.Given as goal

abbrev pub invariant-loop-entry : goal.invariant-loop-entry
invariant-loop-entry l = l.running.items ≡ jobs (reverse (take l.entry-index l.since)) l.repo
