-- The outcome of a job beside the one that an entry tells (own).
use Rattle.std.specs.Prelude.{Bool, false, Option, Some, None}
use Rattle.run_data.specs.declared.job.Outcome.{Outcome}
use Rattle.step_judging.specs.Same.{same_outcome}

-- this outcome is told, if one is
abbrev pub outcome_told : Outcome → Option Outcome → Bool
outcome_told outcome None = false
outcome_told outcome (Some told) = same_outcome outcome told
