-- The tree of a run at the place of its next entry, as data (own).
use Rattle.std.specs.Prelude.{ℕ, ◌≤◌, List, [], ◌∷◌, take, length}
use Rattle.annex_base.specs.Lists.{Each}
use Rattle.run_data.specs.declared.run.TreeMark.{TreeMark}
use Rattle.run_paths.specs.Paths.{IsIndexOf}
use Rattle.step_rules.specs.declared.trees.Trees.{Trees}

-- no change of the tree stands before one of an earlier place, nor before this place
abbrev pub AreInOrder : ℕ → List TreeMark → Type 0
AreInOrder last [] = Unit {0}
AreInOrder last (m ∷ marks) = (last ≤ m.place) × AreInOrder m.place marks

-- the first changes, up to a place, were passed, and some of them taken in
pub record IsTreeBefore (place : ℕ) (x : Trees) : Type 0 where
  pub in_order : AreInOrder 0 x.marks.now
  pub few : x.passed ≤ length x.marks.now
  pub before : Each (λ m. m.place ≤ place) (take x.passed x.marks.now)
  pub index : IsIndexOf (take x.passed x.marks.now) x.index
