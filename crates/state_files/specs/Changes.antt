-- Which entries change the files of their repository, and with which lines (own).
use Rattle.std.specs.Prelude.{◌≡◌, ℕ, List}
use Rattle.annex_base.specs.Lists.{Each}
use Rattle.union_merge.specs.LineSet.{IsLine}
use Rattle.run_data.specs.declared.entry.EntryKind.{EntryKind}
use Rattle.run_data.specs.declared.entry.EntryKind.TheVariants.{Log}
use Rattle.run_data.specs.Files.{HasPath}
use Rattle.node_model.specs.Files.{lines_after}

-- the lines that an entry of this kind adds to a file may stand there, and the file has a path
abbrev pub LogsLines : EntryKind → List (List ℕ) → Type 0
LogsLines (Log file) lines = HasPath file × Each IsLine lines
LogsLines _ lines = Unit {0}

-- an entry of this kind changes no file; for private contracts
abbrev pub LeavesFiles : EntryKind → Type 0
LeavesFiles kind = (path : List ℕ) (was lines : List (List ℕ)) → lines_after path was kind lines ≡ was
