-- The log files of a branch: their paths and kinds, and the file of a path (git-annex internals: branch files).
use Rattle.std.specs.Prelude.{◌≢◌, ℕ, ◌-◌, ◌==◌, Bool, if◌then◌else◌, List, length, take, Option, Some, None, bytes_eq}
use Rattle.std.specs.List.{after_first}
use Rattle.annex_key.specs.FileKey.{key_of_file}
use Rattle.annex_key.specs.KeyText.{IsKeyText}
use Rattle.log_grammar.specs.declared.entry.LogKind.{LogKind}
use Rattle.log_grammar.specs.declared.entry.LogKind.TheVariants as kinds
use Rattle.union_merge.specs.LineSet.{IsLine}
use Rattle.hash_dirs.specs.LogPath.{location_path}
use Rattle.log_grammar.specs.Files.{file_name, kind_named}
use Rattle.run_data.specs.declared.entry.LogFile.{LogFile}
use Rattle.run_data.specs.declared.entry.LogFile.TheVariants.{Location, Of, Other}

-- ---- a file

-- where a file stands in a branch
abbrev pub file_path : LogFile → List ℕ
file_path (Location key) = location_path key
file_path (Of kind) = file_name kind
file_path (Other name) = name

-- what kind of log a file is
abbrev pub kind_of : LogFile → Option LogKind
kind_of (Location key) = Some kinds.Location
kind_of (Of kind) = Some kind
kind_of (Other name) = None

-- A branch can have the file: its path isn't empty and has no newline, as that of a key and that of a kind with a file
-- of its own.
abbrev pub HasPath : LogFile → Type 0
HasPath (Location key) = IsKeyText key
HasPath (Of kind) = kind ≢ kinds.Location
HasPath (Other name) = IsLine name

-- ---- the file of a path

abbrev pub is_slash : ℕ → Bool
is_slash b = b == 47

-- what stands after the two directories of a path, without `.log`
abbrev pub log_name : List ℕ → List ℕ
log_name path = let file = after_first is_slash (after_first is_slash path) in take (length file - 4) file

-- the location log of the key, where the path is its
abbrev pub location_of : List ℕ → Option (List ℕ) → LogFile
location_of path None = Other path
location_of path (Some key) = if bytes_eq (location_path key) path then Location key else Other path

-- the location log that stands at the path, or the file of another name (git-annex internals: location tracking)
abbrev pub location_at : List ℕ → LogFile
location_at path = location_of path (key_of_file (log_name path))

abbrev pub file_by : List ℕ → Option LogKind → LogFile
file_by path None = location_at path
file_by path (Some kind) = Of kind

-- the file that stands at the path
abbrev pub file_of : List ℕ → LogFile
file_of path = file_by path (kind_named path)
