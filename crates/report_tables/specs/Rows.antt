-- What a table of clocks, bars and holds knows (own).
use Rattle.std.specs.Prelude.{◌≡◌, ◌<◌, ℕ, List, length}
use Rattle.std.specs.List.{slice_index_or}
use Rattle.std.specs.BTreeMap.{get}
use Rattle.run_data.specs.declared.entry.Entry.{Entry}
use Rattle.run_data.specs.declared.run.RepoView.{RepoView}
use Rattle.report_tables.specs.declared.rows.RepoRows.{RepoRows}
use Rattle.report_tables.specs.declared.rows.Rows.{Rows}
use Rattle.report_tables.specs.Contents.{key_cmp}
use Rattle.report_tables.specs.Scan.{set_of}
use Rattle.run_model.specs.Past.{bar, clock_set, holds, now}

-- what is known of a repository after these entries, the newest first
pub record HasRepo (rows : RepoRows) (repos : List RepoView) (past : List Entry) (r : ℕ) : Type 0 where
  pub setting : set_of rows.setting ≡ clock_set repos past r
  pub bars : (key : List ℕ) → get key_cmp rows.bars key ≡ bar past r key
  pub holds : rows.holds.items ≡ holds past r

-- the table knows each of the repositories so, and the time
pub record HasRows (rows : Rows) (repos : List RepoView) (past : List Entry) : Type 0 where
  pub number_is : length rows.repos.items ≡ length repos
  pub each : (r : ℕ) (none : RepoRows) → r < length repos → HasRepo (slice_index_or rows.repos.items r none) repos past r
  pub time_is : rows.time ≡ now past
