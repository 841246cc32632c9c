-- The end of a count of beginnings without a slot.
use Rattle.std.proofs.Common.{◌≡◌, ◌⊎◌, ℕ, List, [], ◌∷◌, refl, inl, inr}
use Rattle.run_data.specs.declared.run.Run.{Run}
use Rattle.script_commands.specs.declared.command.Command.{Command}
use Rattle.storm_line.specs.Counts.{noslots_from}

no_marks : (run : Run) (from : ℕ) (commands : List Command) → noslots_from run from commands [] ≡ 0
no_marks run from [] = refl
no_marks run from (command ∷ commands) = refl

no_commands : (run : Run) (from : ℕ) (marks : List ℕ) → noslots_from run from [] marks ≡ 0
no_commands run from [] = refl
no_commands run from (mark ∷ marks) = refl

-- where no command or no mark is left, nothing is
pub slots_end : (run : Run) (from : ℕ) (commands : List Command) (marks : List ℕ) → (commands ≡ []) ⊎ (marks ≡ []) → noslots_from run from commands marks ≡ 0
slots_end run from commands marks (inl none) = rw none (no_commands run from marks)
slots_end run from commands marks (inr none) = rw none (no_marks run from commands)
