-- The lines that are owed after an entry, as its repository knows them; for private contracts (own).
use Rattle.std.specs.Prelude.{ℕ, Bool, true, false, ◌&&◌, if◌then◌else◌, List, [], ◌∷◌, ◌++◌, drop, Option, bytes_eq, slice_get, unwrap_or}
use Rattle.hash_dirs.specs.LogPath.{location_path}
use Rattle.run_data.specs.Files.{file_path}
use Rattle.run_data.specs.declared.entry.EntryKind.{EntryKind}
use Rattle.run_data.specs.declared.entry.EntryKind.TheVariants.{Gain, Gone, Log, Talk, Crash, Fault}
use Rattle.run_data.specs.declared.entry.LogFile.{LogFile}
use Rattle.p2p_wire.specs.declared.message.Message.{Message}
use Rattle.union_merge.specs.Branch.{Files as BranchFiles, lines_at}
use Rattle.node_model.specs.Jobs.{Work}
use Rattle.node_model.specs.OwedLines.{OwedLine, if_new, owed_for, owed_without, same_lines, status_line}
use Rattle.state_owed.specs.Changes.{told_by}

-- the identifier of a repository
abbrev pub id_in : List (List ℕ) → ℕ → List ℕ
id_in ids repo = unwrap_or (slice_get ids repo) []

-- what the log of the line's key lacks of the line at this clock
abbrev pub due_of : List (List ℕ) → BranchFiles → ℕ → OwedLine → List (List ℕ)
due_of ids files clock o = let has = lines_at files (location_path o.key) in if_new has (status_line has (id_in ids o.repo) o.there clock)

-- these lines of the file are just what the line is due
abbrev pub is_due : List (List ℕ) → BranchFiles → ℕ → List (List ℕ) → LogFile → OwedLine → Bool
is_due ids files clock new file o = bytes_eq (file_path file) (location_path o.key) && same_lines new (due_of ids files clock o)

-- they are what the first of these is due
abbrev pub is_paid : List (List ℕ) → BranchFiles → ℕ → List (List ℕ) → LogFile → List OwedLine → Bool
is_paid ids files clock new file [] = false
is_paid ids files clock new file (o ∷ os) = is_due ids files clock new file o

-- the lines that are owed after an entry of this kind with these new lines, where the job talks by it and took the message
abbrev pub owed_so : List (List ℕ) → BranchFiles → ℕ → Option Work → Option Message → ℕ → List OwedLine → List (List ℕ) → EntryKind → List OwedLine
owed_so ids files clock job heard r was new (Gain by size key) = was ++ owed_for r by true key
owed_so ids files clock job heard r was new (Gone by key) = was ++ owed_for r by false key
owed_so ids files clock job heard r was new (Log file) = if is_paid ids files clock new file was then drop 1 was else was
owed_so ids files clock job heard r was new (Talk number) = was ++ told_by job heard
owed_so ids files clock job heard r was new (Fault call by) = owed_without call by was
owed_so ids files clock job heard r was new (Crash to) = []
owed_so ids files clock job heard r was new kind = was
