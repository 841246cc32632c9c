-- The first entry of a run that isn't permitted (own).
use Rattle.std.specs.Prelude.{◌≡◌, ℕ, ◌≤◌, slice_get, Some}
use Rattle.run_data.specs.declared.entry.Entry.{Entry}
use Rattle.run_data.specs.declared.run.Run.{Run}
use Rattle.run_model.specs.Run.{IsRun}
use Rattle.step_rules.specs.Runs.{start_of}
use Rattle.step_rules.specs.States.{TellsOf}
use Rattle.step_rules.specs.declared.wanted.Wanted.{Wanted}
use Rattle.step_rules.specs.declared.wanted.Wanted.TheVariants.{Broken, NoMemory}

-- at a place up to this one stands the first entry that isn't permitted: those before it are a run, and it breaks this rule
pub record IsFirstBroken (run : Run) (most : ℕ) (w : Wanted) : Type 0 where
  pub place : ℕ
  pub within : place ≤ most
  pub before : IsRun (start_of run place)
  pub entry : Entry
  pub at : slice_get run.entries place ≡ Some entry
  pub tells : TellsOf (start_of run place) entry w

-- what is wanted is told of the first entry up to this place that isn't permitted, unless memory ran out
abbrev pub TellsFirst : Run → ℕ → Wanted → Type 0
TellsFirst run most (Broken rule found) = IsFirstBroken run most (Broken rule found)
TellsFirst run most NoMemory = Unit {0}
