-- The lines of a repository's log files, and what an entry changes in them (git-annex internals: branch files).
use Rattle.std.specs.Prelude.{ℕ, if◌then◌else◌, List, Option, Some, None, bytes_eq}
use Rattle.log_lines.specs.Newest.{current_lines}
use Rattle.log_lines.specs.declared.entry.LogKind.{LogKind}
use Rattle.run_data.specs.declared.entry.EntryKind.{EntryKind}
use Rattle.run_data.specs.declared.entry.EntryKind.TheVariants.{Log, Compact}
use Rattle.trust_groups.specs.LineSet.{union}
use Rattle.run_data.specs.Files.{file_path, kind_of}

abbrev pub compact_lines : Option LogKind → List (List ℕ) → List (List ℕ)
compact_lines None lines = lines
compact_lines (Some kind) lines = current_lines kind lines

-- an added line stands in its file from then on; a compaction takes the outdated lines of a file away
abbrev pub lines_after : List ℕ → List (List ℕ) → EntryKind → List (List ℕ) → List (List ℕ)
lines_after path was (Log file) lines = if bytes_eq (file_path file) path then union was lines else was
lines_after path was (Compact file) lines = if bytes_eq (file_path file) path then compact_lines (kind_of file) was else was
lines_after path was _ lines = was
