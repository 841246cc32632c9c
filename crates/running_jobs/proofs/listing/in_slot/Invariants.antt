-- None of those that were passed runs in the slot.
use Rattle.std.proofs.Common.{◌≡◌, drop}
use Rattle.std.specs.Prelude.{◌==◌, find}
use Rattle.node_tasks.specs.Tasks.{slot_of}
use Rattle.running_jobs.proofs.listing.in_slot.Given as goal

abbrev pub invariant-loop-task : goal.invariant-loop-task
invariant-loop-task l = find (λ t. slot_of t == l.slot) l.running ≡ find (λ t. slot_of t == l.slot) (drop l.task-index l.running)
