-- Entries that are added to the logs of a branch (own).
use Rattle.std.specs.Prelude.{◌≡◌, ◌≢◌, ℕ, List, Option, Some, None}
use Rattle.log_lines.specs.declared.entry.Entry.{Entry}
use Rattle.log_lines.specs.declared.entry.LogKind.{LogKind}
use Rattle.log_lines.specs.declared.entry.LogKind.TheVariants as kinds
use Rattle.log_lines.specs.Newest.{newest_stamp, next_stamp}
use Rattle.run_data.specs.declared.entry.LogFile.{LogFile}
use Rattle.run_data.specs.declared.entry.LogFile.TheVariants.{Location, Of}

-- ---- entries of logs

-- the log of this kind, that of the key where it is a location log
abbrev pub log_of : LogKind → Option (List ℕ) → LogFile
log_of kind None = Of kind
log_of kind (Some key) = Location key

-- a key is given exactly for a location log
abbrev pub IsLogOf : LogKind → Option (List ℕ) → Type 0
IsLogOf kind None = kind ≢ kinds.Location
IsLogOf kind (Some key) = kind ≡ kinds.Location

-- the entry with the stamp that it has when it is added to these lines at this clock
abbrev pub with_next_stamp : LogKind → List (List ℕ) → ℕ → Entry → Entry
with_next_stamp kind lines clock e = record e { stamp = Some (next_stamp (newest_stamp kind lines e.topic) clock) }
