-- How far the lines of a script were done, for private contracts (own).
use Rattle.std.specs.Prelude.{◌≡◌, ◌+◌, true, List, None, length}
use Rattle.annex_base.specs.Lists.{Each}
use Rattle.run_model.specs.Past.{now}
use Rattle.fleet_run.specs.Stored.{StoreView}
use Rattle.script_commands.specs.declared.command.Command.{Command}
use Rattle.script_lang.specs.Context.{Context}
use Rattle.script_lang.specs.Preconditions.{AllStand}
use Rattle.driver_model.specs.Driver.{Driver}
use Rattle.driver_model.specs.Limits.{drives_to_limit, limited_run}
use Rattle.driver_script.specs.Inputs.{driver_input_of}
use Rattle.driver_script.specs.Lines.{first_unbuilt, is_built, repos_of}
use Rattle.fleet_run.specs.Fleets.{FleetView}
use Rattle.fleet_run.specs.AtDriver.{IsAtDriver, IsDrivenWithin}

-- The fleet has done the lines of the script's commands up to these, which are left: it stands where the driver does, which has then
-- to do these, and none met a full history; so it can do another line. Its marks and the commands that are left are as many as the
-- script's.
pub record HasDone {K : Type 0} (tells : K → StoreView) (script left : List Command) (fleet : FleetView K) : Type 0 where
  pub built : first_unbuilt script ≡ None
  pub each : Each (λ c. is_built c ≡ true) left
  pub context : Context
  pub stand : AllStand context left
  pub repos : length context.repos + length (repos_of left) ≡ length (repos_of script)
  pub driver : Driver
  pub waited : context.waited ≡ now driver.past
  pub marks : length driver.marks + length left ≡ length script
  pub stands : IsAtDriver tells (driver_input_of script) driver fleet
  pub driven : IsDrivenWithin tells (length fleet.run.marks) fleet
  pub ends : drives_to_limit (driver_input_of script) left driver ≡ limited_run (driver_input_of script) script
