-- The tree at a place, change by change.
use Rattle.std.proofs.Common.{◌≡◌, ℕ, ◌≤◌, ◌<◌, true, false, List, ◌∷◌, arith, refl, sym, ap, ◌∙◌}
use Rattle.std.specs.Prelude.{nat_le}
use Rattle.std.proofs.lemmas.Bool.Decides.{nat_tests}
use Rattle.annex_key.specs.Tree.{Entries, with_key}
use Rattle.run_data.specs.declared.run.TreeMark.{TreeMark}
use Rattle.journal_reading.specs.Lines.{tree_from}

is_within : (m n : ℕ) → m ≤ n → nat_le m n ≡ true
is_within m n low = grind (arith, nat_tests)

is_past : (m n : ℕ) → n < m → nat_le m n ≡ false
is_past m n high = grind (arith, nat_tests)

-- the next change stands at the place or before it
pub tree_more : (whole tree new : Entries) (left rest : List TreeMark) (mark : TreeMark) (n : ℕ) → whole ≡ tree_from tree left n
    → left ≡ mark ∷ rest → mark.place ≤ n → new ≡ with_key tree mark.path mark.key → whole ≡ tree_from new rest n
tree_more whole tree new left rest mark n so_far is low grown =
    so_far ∙ ap (λ l. tree_from tree l n) is ∙ taken (is_within mark.place n low) ∙ ap (λ t. tree_from t rest n) (sym grown)
  where
    taken : nat_le mark.place n ≡ true → tree_from tree (mark ∷ rest) n ≡ tree_from (with_key tree mark.path mark.key) rest n
    taken e = rw e refl

-- it stands behind the place
pub tree_there : (tree : Entries) (left rest : List TreeMark) (mark : TreeMark) (n : ℕ) → left ≡ mark ∷ rest → n < mark.place → tree_from tree left n ≡ tree
tree_there tree left rest mark n is high = ap (λ l. tree_from tree l n) is ∙ kept (is_past mark.place n high)
  where
    kept : nat_le mark.place n ≡ false → tree_from tree (mark ∷ rest) n ≡ tree
    kept e = rw e refl
