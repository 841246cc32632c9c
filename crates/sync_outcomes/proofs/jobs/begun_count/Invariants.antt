-- What holds at each turn of the loops of `jobs::begun_count`.
use Rattle.std.proofs.Common.{◌≡◌, ◌≤◌, take, reverse}
use Rattle.run_model.specs.Past.{begun_count}
use Rattle.sync_outcomes.proofs.jobs.begun_count.Given as goal

abbrev pub invariant-loop-entry : goal.invariant-loop-entry
invariant-loop-entry l = (l.count ≡ begun_count (reverse (take l.entry-index l.before)) l.repo) × (l.count ≤ l.entry-index)
