-- What a table of branches knows (own).
use Rattle.std.specs.Prelude.{◌≡◌, ℕ, ◌<◌, List, [], length}
use Rattle.std.specs.List.{slice_index_or}
use Rattle.annex_base.specs.Lists.{Each}
use Rattle.union_merge.specs.LineSet.{IsLine}
use Rattle.run_data.specs.declared.entry.Entry.{Entry}
use Rattle.run_data.specs.declared.entry.EntryKind.{EntryKind}
use Rattle.run_data.specs.declared.entry.EntryKind.TheVariants.{Log}
use Rattle.run_data.specs.Files.{HasPath}
use Rattle.report_tables.specs.declared.branches.Branches.{Branches}
use Rattle.run_model.specs.Logs.{branch}

-- the lines that an entry of this kind adds to a file may stand there, and the file has a path
abbrev pub LogsLines : EntryKind → List (List ℕ) → Type 0
LogsLines (Log file) lines = HasPath file × Each IsLine lines
LogsLines _ _ = Unit {0}

-- The table has so many branches, and knows the branch of each repository after these entries, the newest first.
pub record HasBranches (branches : Branches) (repositories : ℕ) (past : List Entry) : Type 0 where
  pub number_is : length branches.branches.items ≡ repositories
  pub each : (r : ℕ) → r < repositories → slice_index_or branches.branches.items r [] ≡ branch past r
