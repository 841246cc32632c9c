-- The changes of a tree stand in order of place.
use Rattle.std.proofs.Common.{◌≡◌, ℕ, zero, suc, ◌<◌, ◌≤◌, Bool, true, false, List, [], ◌∷◌, drop, length, take, Some, refl, ap, subst, sym, ◌∙◌, arith}
use Rattle.std.specs.Prelude.{if◌then◌else◌, nat_le, slice_get}
use Rattle.std.specs.List.{fold}
use Rattle.std.proofs.lemmas.Bool.Decides.{nat_tests}
use Rattle.annex_key.specs.Tree.{Entries, with_key}
use Rattle.run_model.specs.Run.{tree_at}
use Rattle.run_paths.specs.Paths.{with_marks}
use Rattle.annex_base.specs.Lists.{Each}
use Rattle.run_data.specs.declared.run.TreeMark.{TreeMark}
use Rattle.step_rules.specs.Trees.{AreInOrder}

later_all : (place last : ℕ) (marks : List TreeMark) → place < last → AreInOrder last marks → Each (λ m. place < m.place) marks
later_all place last [] past order = tt
later_all place last (m ∷ marks) past order =
    let rest = order.0 in
    let here : place < m.place = omega (arith, past, rest) in (here, later_all place m.place marks here order.1)

-- what stands from a later one on is later
pub later_from : (place last : ℕ) (marks : List TreeMark) (n : ℕ) (m : TreeMark) → AreInOrder last marks → slice_get marks n ≡ Some m → place < m.place → Each (λ m. place < m.place) (drop n marks)
later_from place last [] n m order at past = absurd (cc)
later_from place last (x ∷ marks) zero m order at past =
    let same : x ≡ m = cc in
    let low : place < x.place = subst (λ (y : TreeMark). place < y.place) (sym same) past in (low, later_all place x.place marks low order.1)
later_from place last (x ∷ marks) (suc n) m order at past = later_from place x.place marks n m order.1 at past

pub none_from : (place : ℕ) (marks : List TreeMark) (n : ℕ) → length marks ≤ n → Each (λ m. place < m.place) (drop n marks)
none_from place [] zero far = tt
none_from place [] (suc n) far = tt
none_from place (x ∷ marks) zero far = absurd (omega (arith, far))
none_from place (x ∷ marks) (suc n) far = none_from place marks n (omega (arith, far))

-- ---- the tree at a place is that of the changes up to it

abbrev pub taken_in : ℕ → Entries → TreeMark → Entries
taken_in place tree m = if nat_le m.place place then with_key tree m.path m.key else tree

later_none : (place : ℕ) (tree : Entries) (marks : List TreeMark) → Each (λ m. place < m.place) marks → fold (taken_in place) tree marks ≡ tree
later_none place tree [] later = refl
later_none place tree (m ∷ marks) later =
    ap (λ (b : Bool). fold (taken_in place) (if b then with_key tree m.path m.key else tree) marks) (beyond (nat_le m.place place) refl) ∙ later_none place tree marks later.1
  where
    beyond : (b : Bool) → nat_le m.place place ≡ b → b ≡ false
    beyond false is = refl
    beyond true is = let past = later.0 in absurd (grind (arith, nat_tests))

tree_from : (place n : ℕ) (tree : Entries) (marks : List TreeMark) → Each (λ m. m.place ≤ place) (take n marks) → Each (λ m. place < m.place) (drop n marks) → fold (taken_in place) tree marks ≡ with_marks tree (take n marks)
tree_from place zero tree marks before later = later_none place tree marks later
tree_from place (suc n) tree [] before later = refl
tree_from place (suc n) tree (m ∷ marks) before later =
    let low = before.0 in
    let here : nat_le m.place place ≡ true = grind (arith, nat_tests) in
    ap (λ (b : Bool). fold (taken_in place) (if b then with_key tree m.path m.key else tree) marks) here ∙ tree_from place n (with_key tree m.path m.key) marks before.1 later

pub tree_then : (place n : ℕ) (marks : List TreeMark) → Each (λ m. m.place ≤ place) (take n marks) → Each (λ m. place < m.place) (drop n marks) → tree_at marks place ≡ with_marks [] (take n marks)
tree_then place n marks before later = tree_from place n [] marks before later
