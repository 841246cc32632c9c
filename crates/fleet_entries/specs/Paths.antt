-- The paths of a fleet's run, and its index of them; for private contracts.
use Rattle.std.specs.Prelude.{ℕ, ◌≤◌, length}
use Rattle.annex_base.specs.Lists.{Each}
use Rattle.run_data.specs.declared.run.Run.{Run}
use Rattle.run_paths.specs.Paths.{IndexView, IsIndexOf}

-- each path was named among the entries so far, and the index is one of these marks
pub record HasPaths (run : Run) (index : IndexView) : Type 0 where
  pub places : Each (λ mark. mark.place ≤ length run.entries) run.tree
  pub index_is : IsIndexOf run.tree index
