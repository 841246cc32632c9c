-- The run of a journal is set up as an auditor asks for, and is good where each entry is permitted.
use Rattle.std.proofs.Common.{◌≡◌, ℕ, ◌≤◌, List, [], ◌∷◌, length, take, Some, refl, sym, ap, subst, ◌∙◌}
use Rattle.annex_base.specs.Lists.{Each}
use Rattle.run_data.specs.Repos.{IsSetUp}
use Rattle.run_data.specs.declared.run.RepoView.{RepoView}
use Rattle.run_data.specs.declared.run.TreeMark.{TreeMark}
use Rattle.journal_reading.specs.Lines.{IsRepo}
use Rattle.journal_reading.specs.WellFormed.{AreMarks, IsJournal, TextsReadAsTheirRuns}
use Rattle.step_rules.specs.Trees.{AreInOrder}
use Rattle.run_data.specs.declared.entry.Entry.{Entry}
use Rattle.run_data.specs.declared.run.Run.{Run}
use Rattle.run_model.specs.Causes.{HasCauses}
use Rattle.run_model.specs.Run.{IsRun}
use Rattle.run_model.specs.Safety.{IsSafe}
use Rattle.race_core.specs.Copies.{KeepsCopies}
use Rattle.journal_reading.specs.Reading.Reading.{Journal}
use Rattle.step_judging.specs.Audits as audits
use Rattle.step_rules.specs.Runs.{start_of}
use Rattle.run_audit.specs.Audited.{IsKeyOf, audit_of}
use Rattle.run_audit.specs.declared.key_audit.KeyAudit.{KeyAudit}
use Rattle.audit_answers.specs.Due.{HasGoodJournal, KeepsItsKeys}

pub marks_in_order : (last most : ℕ) (marks : List TreeMark) → AreMarks last most marks → AreInOrder last marks
marks_in_order last most [] are = tt
marks_in_order last most (m ∷ marks) are = (are.0.in_order, marks_in_order m.place most marks are.1)

pub repos_are_set_up : (repos : List RepoView) → Each IsRepo repos → Each IsSetUp repos
repos_are_set_up [] is = tt
repos_are_set_up (x ∷ xs) is = (record { id = is.0.id; offset = is.0.offset; oldest = is.0.oldest; newest = is.0.newest }, repos_are_set_up xs is.1)

-- ---- one run

same_run : (run other : Run) → Journal run ≡ Journal other → run ≡ other
same_run run other h = cc

pub one_run : TextsReadAsTheirRuns → (bytes : List ℕ) (run other : Run) → IsJournal bytes run → IsJournal bytes other → run ≡ other
one_run law bytes run other is too = same_run run other (sym ((law bytes run).1 is) ∙ (law bytes other).1 too)

-- ---- what is due

-- all entries were taken
all_taken : (es : List Entry) → take (length es) es ≡ es
all_taken [] = refl
all_taken (e ∷ es) = ap (λ (xs : List Entry). e ∷ xs) (all_taken es)

pub whole_start : (run : Run) → start_of run (length run.entries) ≡ run
whole_start run = ap (λ (entries : List Entry). record run { entries = entries }) (all_taken run.entries)

pub record Laws : Type 0 where
  pub one : TextsReadAsTheirRuns
  pub copies : (run : Run) → IsRun run → KeepsCopies run
  pub safe : (run : Run) → IsRun run → IsSafe run
  pub causes : (run : Run) → IsRun run → HasCauses run
  pub enough : (run : Run) (key : List ℕ) (n m : ℕ) → IsRun run → (audit_of run key).least ≡ Some n → (audit_of run key).need ≡ Some m → m ≤ n

keys_keep : Laws → (run : Run) → IsRun run → (xs : List KeyAudit) → Each (IsKeyOf run) xs → Each (λ x. x.mincopies ≤ x.least) xs
keys_keep laws run lawful [] each = tt
keys_keep laws run lawful (x ∷ xs) each = (
  laws.enough run x.key x.least x.mincopies lawful (ap (λ (a : audits.KeyAudit). a.least) each.0.audit_is) (ap (λ (a : audits.KeyAudit). a.need) each.0.audit_is),
  keys_keep laws run lawful xs each.1,
)

good_keys : Laws → (run : Run) → IsRun run → KeepsItsKeys run
good_keys laws run lawful = record {
  good = record { is_run = lawful; copies = laws.copies run lawful; safe = laws.safe run lawful; causes = laws.causes run lawful };
  keys = λ xs are. keys_keep laws run lawful xs are.each;
}

pub good_journal : Laws → (bytes : List ℕ) (run : Run) → IsJournal bytes run → IsRun run → HasGoodJournal bytes
good_journal laws bytes run is lawful = λ other too. subst KeepsItsKeys (one_run laws.one bytes run other is too) (good_keys laws run lawful)
