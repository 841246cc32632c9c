-- What a fleet has done is what the driver of scripts has done (own).
use Rattle.std.specs.Prelude.{◌≡◌, ℕ, ◌<◌, ◌≤◌, Bool, true, false, List, ◌++◌, filter, is_none, length, reverse}
use Rattle.run_data.specs.Histories.{most_entries}
use Rattle.run_data.specs.declared.entry.Entry.{Entry}
use Rattle.run_data.specs.declared.run.Run.{Run}
use Rattle.run_data.specs.declared.run.TreeMark.{TreeMark}
use Rattle.run_model.specs.Run.{IsRun}
use Rattle.fleet_model.specs.Stored.{StoreView}
use Rattle.driver_model.specs.Driver.{Driver, DriverInput, newest_count}
use Rattle.driver_model.specs.Limits.{StopsAtFull, count_of, within_limit}
use Rattle.driver_model.specs.ScriptSteps.{closes, lacks_places}
use Rattle.fleet_model.specs.Fleets.{FleetView, HasCome}
use Rattle.fleet_model.specs.Matches.{DecidesMatches}

-- it has come to where the driver is, which is given what decides whether bytes match a key
pub record IsAtDriver {K : Type 0} (tells : K → StoreView) (g : DriverInput) (d : Driver) (f : FleetView K) : Type 0 where
  pub come : HasCome tells g d f
  pub decides : DecidesMatches g

-- how many lines it does at most: 2 ^ 28 (own)
abbrev pub most_lines : ℕ
most_lines = 268435456

-- wherever the driver was, the fleet goes on as this step of it
abbrev pub GoesOn : {K : Type 0} → (K → StoreView) → (DriverInput → Driver → Driver) → FleetView K → FleetView K → Type 0
GoesOn tells step was after = (g : DriverInput) (d : Driver) → IsAtDriver tells g d was → IsAtDriver tells g (step g d) after

-- ---- where a line is refused

-- of the run only the entries change: some stand behind those that it had
abbrev pub OnlyAddsEntries : {K : Type 0} → FleetView K → FleetView K → Type 0
OnlyAddsEntries was after = (more : List Entry) × (after.run ≡ record was.run { entries = was.run.entries ++ more })

-- Of the run only the entries and the tree change: some stand behind those that it had. A line that names a path does so before it asks a
-- store, and the path keeps its key where the store then meets a full history.
abbrev pub OnlyAddsBehind : {K : Type 0} → FleetView K → FleetView K → Type 0
OnlyAddsBehind was after = (more : List Entry) × (named : List TreeMark) × (after.run ≡ record was.run { entries = was.run.entries ++ more; tree = was.run.tree ++ named })

-- The run is one of the definitions, and its entries are a start of those that the driver has made.
pub record IsStartOf (d : Driver) (run : Run) : Type 0 where
  pub lawful : IsRun run
  pub entries : (left : List Entry) × (reverse d.past ≡ run.entries ++ left)

-- wherever the driver was, the fleet's run is a start of what it has made after this step
abbrev pub StopsWithin : {K : Type 0} → (K → StoreView) → (DriverInput → Driver → Driver) → FleetView K → FleetView K → Type 0
StopsWithin tells step was after = (g : DriverInput) (d : Driver) → IsAtDriver tells g d was → IsStartOf (step g d) after.run

-- ---- where a line can be done

-- a wait of the script: an entry of no repository
abbrev pub is_wait : Entry → Bool
is_wait e = is_none e.repo

-- how many waits there are among the entries
abbrev pub waits_in : List Entry → ℕ
waits_in past = length (filter is_wait past)

-- There are at most so many waits, and the newest count is at most the number of entries. So counts and places stay small: each other
-- entry is of a repository, which makes no more of them than its history has room for.
pub record IsFew (most : ℕ) (past : List Entry) : Type 0 where
  pub waits : waits_in past ≤ most
  pub count : newest_count past ≤ length past

-- The fleet has come to where some driver is, which has at most sixteen repositories and has made at most so many waits. A line can be
-- done only where this holds with as many waits as the run has marks, one for each line that was done: so it does before the first
-- line, and after each line that was done. After a refusal nothing says so, since the run may lack entries that a node made.
pub record IsDrivenWithin {K : Type 0} (tells : K → StoreView) (most : ℕ) (f : FleetView K) : Type 0 where
  pub given : DriverInput
  pub driver : Driver
  pub stands : IsAtDriver tells given driver f
  pub repos : length given.repos ≤ 16
  pub few : IsFew most driver.past

-- ---- within a line

-- it has come to where some driver is, and there are at most as many waits as a fleet does lines
abbrev pub IsDriven : {K : Type 0} → (K → StoreView) → FleetView K → Type 0
IsDriven tells f = IsDrivenWithin tells most_lines f

-- ---- where a history is full

-- wherever the driver was, this step of it comes to an entry of r, whose history is full, and the fleet's run has all entries before it
abbrev pub EndsAtFull : {K : Type 0} → (K → StoreView) → ℕ → (DriverInput → Driver → Driver) → FleetView K → FleetView K → Type 0
EndsAtFull tells r step was after = (g : DriverInput) (d : Driver) → IsAtDriver tells g d was → StopsAtFull g r (step g d) after.run

-- Wherever the driver was, r had made as many entries as it may, so that its store wasn't asked; all that this step of the driver adds
-- passes the limit, and the run is as it was.
pub record WaitsForRoom {K : Type 0} (tells : K → StoreView) (r : ℕ) (step : DriverInput → Driver → Driver) (was after : FleetView K) : Type 0 where
  pub full : (g : DriverInput) (d : Driver) → IsAtDriver tells g d was → count_of d.past r ≡ most_entries
  pub past : (g : DriverInput) (d : Driver) → IsAtDriver tells g d was → within_limit g (step g d).past ≡ d.past
  pub run : after.run ≡ was.run

-- wherever the driver was, r may make another entry
abbrev pub HasRoom : {K : Type 0} → (K → StoreView) → ℕ → FleetView K → Type 0
HasRoom tells r f = (g : DriverInput) (d : Driver) → IsAtDriver tells g d f → count_of d.past r < most_entries

-- ---- where ends are to be closed

-- Wherever the driver was, r had more ends at the other open than there were places left in its history, so that this step of the driver
-- adds none; and the run is as it was.
pub record ClosesNone {K : Type 0} (tells : K → StoreView) (r other : ℕ) (was after : FleetView K) : Type 0 where
  pub lacks : (g : DriverInput) (d : Driver) → IsAtDriver tells g d was → lacks_places d.past r other ≡ true
  pub past : (g : DriverInput) (d : Driver) → IsAtDriver tells g d was → within_limit g (closes g r other d).past ≡ d.past
  pub run : after.run ≡ was.run

-- wherever the driver was, r had places left for as many entries as it had ends at the other open
abbrev pub HasPlaces : {K : Type 0} → (K → StoreView) → ℕ → ℕ → FleetView K → Type 0
HasPlaces tells r other f = (g : DriverInput) (d : Driver) → IsAtDriver tells g d f → lacks_places d.past r other ≡ false
