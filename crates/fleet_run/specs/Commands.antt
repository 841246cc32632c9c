-- Which commands a fleet may be given (own).
use Rattle.std.specs.Prelude.{◌≡◌, ◌⊎◌, ℕ, ◌≤◌, true, false, List, length, reverse, None}
use Rattle.run_data.specs.Histories.{most_entries}
use Rattle.run_data.specs.declared.entry.Entry.{Entry}
use Rattle.run_data.specs.declared.run.Run.{Run}
use Rattle.run_model.specs.Past.{now}
use Rattle.run_model.specs.Run.{IsRun}
use Rattle.fleet_entries.specs.Stored.{StoreView}
use Rattle.script_commands.specs.declared.command.Command.{Command}
use Rattle.script_lang.specs.Context.{Context}
use Rattle.script_lang.specs.Limits.{first_limit}
use Rattle.script_lang.specs.Preconditions as script
use Rattle.driver_model.specs.Driver.{Driver, DriverInput}
use Rattle.driver_model.specs.Driving.{does, with_mark}
use Rattle.driver_model.specs.Limits.{HasClose, asks_first, count_of, is_full, lacks_at, meets_limit, run_to_limit}
use Rattle.driver_model.specs.ScriptSteps.{lacks_places}
use Rattle.driver_script.specs.Lines.{is_built}
use Rattle.fleet_entries.specs.Fleets.{FleetView}
use Rattle.fleet_entries.specs.AtDriver.{IsAtDriver}

-- Its line stands behind lines of a script that declare no more repositories than there are nodes, and that waited until now; it
-- passes no limit, and no part is missing for it.
pub record MayBeDone {K : Type 0} (f : FleetView K) (command : Command) : Type 0 where
  pub context : Context
  pub repos : length context.repos ≤ length f.nodes
  pub waited : context.waited ≡ now (reverse f.run.entries)
  pub stands : script.IsValidIn context command
  pub within : first_limit context command ≡ None
  pub built : is_built command ≡ true

-- what the driver does at the command
abbrev pub does_command : Command → DriverInput → Driver → Driver
does_command command g d = does g command d

-- and that its line is done
abbrev pub does_and_marks : Command → DriverInput → Driver → Driver
does_and_marks command g d = with_mark (does g command d)

-- ---- where a history is full

-- the line is a close of more ends of r than there are places left in its history after these entries
abbrev pub LacksForClose : Command → ℕ → List Entry → Type 0
LacksForClose command r past = (other : ℕ) × HasClose command r other × (lacks_places past r other ≡ true)

-- The line meets a full history, that of r, or is a close for which r has too few places left; the run is the driver's up to there, and is
-- one of repositories.
pub record IsCut (g : DriverInput) (command : Command) (d : Driver) (r : ℕ) (run : Run) : Type 0 where
  pub meets : meets_limit g command d ≡ true
  pub run_is : run ≡ run_to_limit g command d
  pub lawful : IsRun run
  pub full : (count_of (reverse run.entries) r ≡ most_entries) ⊎ LacksForClose command r (reverse run.entries)

-- wherever the driver was, the command's line does so
abbrev pub CutsAt : {K : Type 0} → (K → StoreView) → ℕ → Command → FleetView K → FleetView K → Type 0
CutsAt tells r command was after = (g : DriverInput) (d : Driver) → IsAtDriver tells g d was → IsCut g command d r after.run

-- wherever the driver was, the command's line meets no full history
abbrev pub MeetsNone : {K : Type 0} → (K → StoreView) → Command → FleetView K → Type 0
MeetsNone tells command was = (g : DriverInput) (d : Driver) → IsAtDriver tells g d was → meets_limit g command d ≡ false

-- wherever the driver was, the repository whose store the command's line asks first may make another entry, and the line is no close that
-- lacks places; for private contracts
abbrev pub HasRoomFor : {K : Type 0} → (K → StoreView) → Command → FleetView K → Type 0
HasRoomFor tells command was = (g : DriverInput) (d : Driver) → IsAtDriver tells g d was → (is_full d.past (asks_first command) ≡ false) × (lacks_at g command d ≡ false)
