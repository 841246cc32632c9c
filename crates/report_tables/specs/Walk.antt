-- Where a walk along a run stands, along which runs it goes, and what their scripts may show (own).
use Rattle.std.specs.Prelude.{◌≡◌, ℕ, ◌<◌, ◌≤◌, List, length, slice_get, Some}
use Rattle.trust_groups.specs.Reads.{Indices}
use Rattle.run_data.specs.declared.entry.Entry.{Entry}
use Rattle.run_data.specs.declared.entry.EntryKind.{EntryKind}
use Rattle.run_data.specs.declared.entry.EntryKind.TheVariants.{Crash}
use Rattle.run_data.specs.declared.run.RepoView.{RepoView}
use Rattle.run_data.specs.declared.run.Run.{Run}
use Rattle.run_model.specs.Safety.{past_at}
use Rattle.report_tables.specs.Branches.{HasBranches, LogsLines}
use Rattle.report_tables.specs.Contents.{Tracks}
use Rattle.report_tables.specs.Rows.{HasRows}
use Rattle.report_tables.specs.Sets.{HasSets}
use Rattle.report_tables.specs.declared.walk.Walk.{Walk}
use Rattle.script_commands.specs.declared.command.Command.{Command}
use Rattle.script_commands.specs.declared.command.Command.TheVariants as commands
use Rattle.script_commands.specs.declared.command.Showing.{Showing}
use Rattle.script_commands.specs.declared.command.Showing.TheVariants as showings

-- the walk knows the contents, the branches, what these set as far as it was read, and the rows after these entries, the newest first
pub record Knows (walk : Walk) (repos : List RepoView) (past : List Entry) : Type 0 where
  pub contents : Tracks walk.contents (length repos) past
  pub branches : HasBranches walk.branches (length repos) past
  pub sets : HasSets walk.sets (length repos) past
  pub rows : HasRows walk.rows repos past

-- the walk knows what is there at its place of the run
pub record StandsIn (walk : Walk) (run : Run) : Type 0 where
  pub knows : Knows walk run.repos (past_at run walk.place)

-- and this is its place
pub record StandsAt (walk : Walk) (run : Run) (place : ℕ) : Type 0 where
  pub place_is : walk.place ≡ place
  pub knows : Knows walk run.repos (past_at run place)

-- the walk knows the branch, what it sets, and the row of each key, of a repository of this number
abbrev pub KnowsBranch : Walk → ℕ → Type 0
KnowsBranch walk r = r < length walk.branches.branches.items

abbrev pub KnowsSets : Walk → ℕ → Type 0
KnowsSets walk r = r < length walk.sets.read.items

abbrev pub KnowsRow : Walk → ℕ → Type 0
KnowsRow walk r = r < length walk.rows.repos.items

-- it has read what the branch of the repository of this number sets
abbrev pub HasRead : Walk → ℕ → Type 0
HasRead walk r = (indices : Indices) × (slice_get walk.sets.read.items r ≡ Some (Some indices))

-- a clock is set to at most this, in milliseconds
abbrev pub SetsClock : EntryKind → Type 0
SetsClock (Crash clock) = clock ≤ 100000000000
SetsClock _ = Unit {0}

-- the lines that the entry logs, if it logs some, may stand in their file; its time, and the clock that it sets, if it sets one, are
-- within the bounds of runs
pub record IsWellFormed (e : Entry) : Type 0 where
  pub logs : LogsLines e.kind e.lines
  pub in_time : e.time ≤ 1000000000000
  pub clock : SetsClock e.kind

-- the wall clock of a repository is ahead of the script's time by at most this, in milliseconds
abbrev pub IsAhead : RepoView → Type 0
IsAhead repo = repo.offset ≤ 100000000000

-- what is shown of a repository is of one of so many
abbrev pub IsOfKnown : ℕ → Showing → Type 0
IsOfKnown n (showings.Presence k) = Unit {0}
IsOfKnown n (showings.Claims r k) = r < n
IsOfKnown n (showings.Location r k) = r < n
IsOfKnown n (showings.Log r file) = r < n
IsOfKnown n (showings.Logs r) = r < n
IsOfKnown n (showings.Numbers r path) = r < n
IsOfKnown n (showings.Level r target) = (r < n) × (target < n)
IsOfKnown n (showings.Wants r target path) = (r < n) × (target < n)
IsOfKnown n (showings.Row r k) = r < n
IsOfKnown n (showings.Plan r) = r < n
IsOfKnown n showings.Totals = Unit {0}
IsOfKnown n showings.Journal = Unit {0}

abbrev pub ShowsKnown : ℕ → Command → Type 0
ShowsKnown n (commands.Shows what) = IsOfKnown n what
ShowsKnown n command = Unit {0}
