-- Which repositories are claimed to have a key, each by itself (git-annex internals: location log; git-annex-dead).
use Rattle.std.specs.Prelude.{◌≡◌, ◌≢◌, ℕ, List, Some}
use Rattle.annex_base.specs.declared.kinds.Level.TheVariants as levels
use Rattle.log_lines.specs.declared.entry.LogKind.TheVariants as kinds
use Rattle.log_lines.specs.declared.entry.Topic.TheVariants as topics
use Rattle.log_lines.specs.declared.entry.Entry.{Entry}
use Rattle.log_lines.specs.declared.entry.Value.TheVariants as values
use Rattle.log_lines.specs.Newest.{newest_of}
use Rattle.hash_dirs.specs.LogPath.{location_path}
use Rattle.trust_groups.specs.Settings.{Lines, level}

-- the newest status of the repository in the key's location log is 1, and the repository isn't dead
pub record IsClaimed (lines : Lines) (key repo : List ℕ) : Type 0 where
  pub entry : Entry
  pub newest : newest_of kinds.Location (lines (location_path key)) (topics.Repo repo) ≡ Some entry
  pub present : entry.value ≡ values.Present
  pub alive : level lines repo ≢ levels.Dead
