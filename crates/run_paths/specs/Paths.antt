-- The paths that the marks of a run give keys (own).
use Rattle.std.specs.Prelude.{◌≡◌, ℕ, ◌≤◌, List, [], length, take}
use Rattle.std.specs.List.{fold}
use Rattle.annex_key.specs.Tree.{Entries, with_key}
use Rattle.run_data.specs.declared.run.TreeMark.{TreeMark}

-- a tree after these marks
abbrev pub with_marks : Entries → List TreeMark → Entries
with_marks tree marks = fold (λ entries mark. with_key entries mark.path mark.key) tree marks

-- a tree, and how many marks it has taken in
pub record IndexView : Type 0 where
  pub tree : Entries
  pub taken : ℕ

-- it has taken in these marks, or some first ones
pub record IsIndexOf (marks : List TreeMark) (index : IndexView) : Type 0 where
  pub few : index.taken ≤ length marks
  pub tree_is : index.tree ≡ with_marks [] (take index.taken marks)
