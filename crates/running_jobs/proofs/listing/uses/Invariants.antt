-- None of those that were passed runs in the slot.
use Rattle.std.proofs.Common.{◌≡◌, drop}
use Rattle.std.specs.Prelude.{map}
use Rattle.node_model.specs.Slots.{uses}
use Rattle.running_jobs.specs.Beginning.{running_now}
use Rattle.running_jobs.proofs.listing.uses.Given as goal

abbrev pub invariant-loop-task : goal.invariant-loop-task
invariant-loop-task l = uses (map running_now l.running) l.slot ≡ uses (map running_now (drop l.task-index l.running)) l.slot
