-- What the calls that write logs make of a repository (own).
use Rattle.std.specs.Prelude.{ℕ, ◌+◌, List, [], ◌∷◌, Option}
use Rattle.log_lines.specs.declared.entry.Entry.{Entry}
use Rattle.log_lines.specs.declared.entry.LogKind.{LogKind}
use Rattle.run_data.specs.Files.{file_path}
use Rattle.run_data.specs.declared.entry.EntryKind.TheVariants.{Log}
use Rattle.run_data.specs.declared.entry.LogFile.{LogFile}
use Rattle.union_merge.specs.Branch.{lines_at, merged_file}
use Rattle.union_merge.specs.LineSet.{difference}
use Rattle.node_model.specs.OwedLines.{stamp_at}
use Rattle.node_ledger.specs.Ledgers.{with_entry, Repository}
pub use Rattle.branch_lines.specs.Logs.{IsLogOf, log_of, with_next_stamp}

-- ---- lines

-- the repository with these new lines of a file, as one entry; without lines it stays as it is
abbrev pub with_log : {K P : Type 0} → Repository K P → K → LogFile → List (List ℕ) → Repository K P
with_log n keeper file [] = n
with_log n keeper file (line ∷ lines) = with_entry n keeper (merged_file n.branch (file_path file) (line ∷ lines)) (Log file) (line ∷ lines)

-- the repository with those of these lines that the file lacks
abbrev pub with_lines : {K P : Type 0} → Repository K P → K → LogFile → List (List ℕ) → Repository K P
with_lines n keeper file lines = with_log n keeper file (difference lines (lines_at n.branch (file_path file)))

-- the wall clock as a stamp
abbrev pub wall_stamp : {K P : Type 0} → Repository K P → ℕ
wall_stamp n = stamp_at (n.time + n.setup.offset)

-- the entry as the repository writes it now
abbrev pub stamped_by : {K P : Type 0} → Repository K P → LogKind → Option (List ℕ) → Entry → Entry
stamped_by n kind key e = with_next_stamp kind (lines_at n.branch (file_path (log_of kind key))) (wall_stamp n) e
