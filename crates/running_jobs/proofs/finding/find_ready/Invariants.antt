-- No job in a slot that was passed has a step.
use Rattle.std.proofs.Common.{◌≡◌, ℕ, ◌<◌}
use Rattle.running_jobs.specs.Finding.{IsSlotIdle}
use Rattle.running_jobs.proofs.finding.find_ready.Given as goal

abbrev pub invariant-loop-slot : goal.invariant-loop-slot
invariant-loop-slot l =
    record {
      same : l.ends ≡ l.initial.ends;
      idle : (slot : ℕ) → slot < l.slot → IsSlotIdle l.place l.clock l.initial.ends l.jobs l.time slot;
    }
