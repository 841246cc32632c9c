-- The end of a report.
use Rattle.std.proofs.Common.{◌≡◌, ◌⊎◌, ℕ, List, [], ◌∷◌, length, refl, inl, inr}
use Rattle.run_data.specs.declared.run.Run.{Run}
use Rattle.run_model.specs.Syncs.{SyncJobs}
use Rattle.script_commands.specs.declared.command.Command.{Command}
use Rattle.report_text.specs.Report.{report_from}
use Rattle.shown_text.specs.Lines.{outcome_lines}

no_marks : (run : Run) (from changes : ℕ) (syncs : List SyncJobs) (commands : List Command) → report_from run from changes syncs commands [] ≡ outcome_lines run syncs from (length run.entries)
no_marks run from changes syncs [] = refl
no_marks run from changes syncs (command ∷ commands) = refl

no_commands : (run : Run) (from changes : ℕ) (syncs : List SyncJobs) (marks : List ℕ) → report_from run from changes syncs [] marks ≡ outcome_lines run syncs from (length run.entries)
no_commands run from changes syncs [] = refl
no_commands run from changes syncs (mark ∷ marks) = refl

-- where no command or no mark is left, the rest is what ended after the last place
pub report_end : (run : Run) (from changes : ℕ) (syncs : List SyncJobs) (commands : List Command) (marks : List ℕ) → (commands ≡ []) ⊎ (marks ≡ [])
    → report_from run from changes syncs commands marks ≡ outcome_lines run syncs from (length run.entries)
report_end run from changes syncs commands marks (inl none) = rw none (no_commands run from changes syncs marks)
report_end run from changes syncs commands marks (inr none) = rw none (no_marks run from changes syncs commands)
