-- The table of entries, with the words of moves' transfers in two ways.
use Rattle.std.proofs.Common.{◌≡◌, ℕ, List, [], ◌∷◌, ◌++◌, Option, Some, None, refl, ap}
use Rattle.std.specs.Prelude.{codes}
use Rattle.std.specs.Option.{option_map, option_or}
use Rattle.annex_base.specs.OptionSteps.{◌>>=◌}
use Rattle.annex_key.specs.Tree.{Entries}
use Rattle.run_data.specs.declared.entry.Entry.{Entry}
use Rattle.run_data.specs.declared.entry.EntryKind.TheVariants as kinds
use Rattle.run_data.specs.declared.run.RepoView.{RepoView}
use Rattle.run_data.specs.declared.job.Outcome.{Outcome}
use Rattle.run_model.specs.Past.{begun_job}
use Rattle.run_text.specs.Outcomes.{transfer_word_of}
use Rattle.script_words.specs.Marks.{behind_mark}
use Rattle.journal_reading.specs.Forms.{Row, cut, row_in, by_rows}
use Rattle.journal_reading.specs.Fields.{small}
use Rattle.journal_reading.specs.Kinds.{did, outcome_form, kind_rows}
use Rattle.journal_kinds.specs.declared.begun.Begun.{Begun}
use Rattle.journal_kinds.specs.Begun.{AreBegun, word_at}
use Rattle.journal_kinds.specs.Rows.{end_by, end_row, rows_before, rows_by}
use Rattle.journal_kinds.proofs.BegunLemmas.{words_are}

same_steps : {A B : Type 0} (o : Option A) (f g : A → Option B) → ((x : A) → f x ≡ g x) → (o >>= f) ≡ (o >>= g)
same_steps None f g same = refl
same_steps (Some x) f g same = same x

same_last : {A : Type 0} (rows : List (Row A)) (r s : Row A) (bytes : List ℕ) → row_in bytes r ≡ row_in bytes s → by_rows (rows ++ r ∷ []) bytes ≡ by_rows (rows ++ s ∷ []) bytes
same_last {A} [] r s bytes same = ap (λ (o : Option A). option_or o None) same
same_last {A} (q ∷ rows) r s bytes same = ap (λ (o : Option A). option_or (row_in bytes q) o) (same_last rows r s bytes same)

module _ (repos : List RepoView) (r : ℕ) (word other : ℕ → List ℕ) (same : (j : ℕ) → word j ≡ other j) where
  same_end_form : (bytes : List ℕ) → (end_by repos word r).read bytes ≡ (end_by repos other r).read bytes
  same_end_form bytes =
      same_steps (cut 32 bytes) (λ parts. small.read parts.0 >>= λ j. (outcome_form repos r (word j)).read parts.1 >>= λ y. Some (j, y))
      (λ parts. small.read parts.0 >>= λ j. (outcome_form repos r (other j)).read parts.1 >>= λ y. Some (j, y))
      (λ parts. same_steps (small.read parts.0) (λ j. (outcome_form repos r (word j)).read parts.1 >>= λ y. Some (j, y))
      (λ j. (outcome_form repos r (other j)).read parts.1 >>= λ y. Some (j, y))
      (λ j. ap (λ (w : List ℕ). (outcome_form repos r w).read parts.1 >>= λ y. Some (j, y)) (same j)))

  same_end_row : (bytes : List ℕ) → row_in bytes (end_row repos word r) ≡ row_in bytes (end_row repos other r)
  same_end_row bytes =
      same_steps (behind_mark (codes "end ") bytes) (end_row repos word r).read (end_row repos other r).read
      (λ rest. ap (λ (o : Option (ℕ × Outcome)). option_map (did (λ x. kinds.End x.0 x.1)) o) (same_end_form rest))

-- the words by the jobs that were begun are those by the entries
pub rows_are : (repos : List RepoView) (tree : Entries) (past : List Entry) (begun : Begun) (r : ℕ) (bytes : List ℕ) → AreBegun past begun
    → by_rows (rows_by repos tree (word_at begun r) r) bytes ≡ by_rows (kind_rows repos tree past r) bytes
rows_are repos tree past begun r bytes are =
    same_last (rows_before repos tree r) (end_row repos (word_at begun r) r) (end_row repos (λ j. transfer_word_of (begun_job past r j)) r) bytes
    (same_end_row repos r (word_at begun r) (λ j. transfer_word_of (begun_job past r j)) (words_are past begun are r) bytes)
