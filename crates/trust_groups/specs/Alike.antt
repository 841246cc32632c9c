-- When two branches say the same (git-annex internals: branch files; compaction is own).
use Rattle.std.specs.Prelude.{◌≡◌, ◌≢◌, ◌⊎◌, ℕ, List}
use Rattle.log_lines.specs.declared.entry.LogKind.{LogKind}
use Rattle.log_lines.specs.declared.entry.LogKind.TheVariants as kinds
use Rattle.log_lines.specs.Newest.{ReadAlike, current_lines}
use Rattle.log_lines.specs.Keeping.{SameLines, Keeps}
use Rattle.log_lines.specs.Files.{file_name}
use Rattle.hash_dirs.specs.LogPath.{location_path}
use Rattle.trust_groups.specs.Settings.{Lines}

-- each file has the same lines in both, in any order and any number
abbrev pub SameFiles : Lines → Lines → Type 0
SameFiles x y = (path : List ℕ) → SameLines (x path) (y path)

-- each log file reads alike in both
pub record SameReading (x y : Lines) : Type 0 where
  pub files : (kind : LogKind) → kind ≢ kinds.Location → ReadAlike kind (x (file_name kind)) (y (file_name kind))
  pub locations : (key : List ℕ) → ReadAlike kinds.Location (x (location_path key)) (y (location_path key))

-- each log file is kept of all lines that were ever added to it: what additions, merges and compactions leave
pub record KeepsFiles (kept ever : Lines) : Type 0 where
  pub files : (kind : LogKind) → kind ≢ kinds.Location → Keeps kind (kept (file_name kind)) (ever (file_name kind))
  pub locations : (key : List ℕ) → Keeps kinds.Location (kept (location_path key)) (ever (location_path key))

-- the file is as it was, or compacted
abbrev pub MayCompact : LogKind → List (List ℕ) → List (List ℕ) → Type 0
MayCompact kind old new = (new ≡ old) ⊎ (new ≡ current_lines kind old)

-- some of the log files were compacted, each by its kind
pub record CompactsFiles (old new : Lines) : Type 0 where
  pub files : (kind : LogKind) → kind ≢ kinds.Location → MayCompact kind (old (file_name kind)) (new (file_name kind))
  pub locations : (key : List ℕ) → MayCompact kinds.Location (old (location_path key)) (new (location_path key))

-- no log of any kind stands at this path
pub record IsNoLog (path : List ℕ) : Type 0 where
  pub files : (kind : LogKind) → kind ≢ kinds.Location → path ≢ file_name kind
  pub locations : (key : List ℕ) → path ≢ location_path key
