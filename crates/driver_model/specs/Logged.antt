-- What the entries of a run add to logs (own).
use Rattle.std.specs.Prelude.{◌≢◌, ℕ, List, None}
use Rattle.union_merge.specs.LineSet.{IsLineSet}
use Rattle.run_data.specs.declared.entry.EntryKind.{EntryKind}
use Rattle.run_data.specs.declared.entry.EntryKind.TheVariants.{Log}
use Rattle.run_data.specs.Files.{HasPath, kind_of}

-- the lines that an entry of this kind adds to a file are in order, each once; the file has a path, and its kind is known
abbrev pub LogsWell : EntryKind → List (List ℕ) → Type 0
LogsWell (Log file) lines = HasPath file × (kind_of file ≢ None) × IsLineSet lines
LogsWell kind lines = Unit {0}
