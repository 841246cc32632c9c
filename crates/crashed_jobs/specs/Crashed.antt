-- How a crash ends the jobs that run (own).
use Rattle.std.specs.Prelude.{ℕ, Bool, ◌&&◌, ◌||◌, if◌then◌else◌, ◌==◌, List, Option, find}
use Rattle.run_data.specs.declared.entry.Entry.{Entry}
use Rattle.run_data.specs.declared.job.Outcome.{Outcome}
use Rattle.run_data.specs.declared.job.Outcome.TheVariants.{Refused, TransferRefused}
use Rattle.run_data.specs.declared.job.DropRefusal.TheVariants as refusals
use Rattle.run_data.specs.declared.job.TransferRefusal.TheVariants as failures
use Rattle.node_model.specs.Jobs.{is_move}
use Rattle.node_model.specs.Slots.{RunningJob}
use Rattle.run_model.specs.Logs.{in_drop, is_drop}

-- the job of a slot, if one runs there
abbrev pub in_slot : List RunningJob → ℕ → Option RunningJob
in_slot js slot = find (λ j. j.slot == slot) js

-- a drop is at its drop, and a move once its transfer is done
abbrev pub is_at_drop : List Entry → ℕ → RunningJob → Bool
is_at_drop past r j = (is_drop j.what.kind || is_move j.what.kind) && in_drop past r j.number

-- a crash of r ends a job that is at its drop by the refusal of a drop, and any other by that of a transfer
abbrev pub crashed_outcome : List Entry → ℕ → RunningJob → Outcome
crashed_outcome past r j = if is_at_drop past r j then Refused refusals.Crashed else TransferRefused failures.Crashed
