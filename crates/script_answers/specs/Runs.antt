-- The run of a script (own).
use Rattle.std.specs.Prelude.{◌≡◌, Bool, List, None}
use Rattle.run_data.specs.declared.run.Run.{Run}
use Rattle.run_model.specs.Run.{IsRun}
use Rattle.script_commands.specs.declared.command.Command.{Command}
use Rattle.driver_model.specs.Limits.{limited_run}
use Rattle.driver_script.specs.Inputs.{driver_input_of}
use Rattle.driver_script.specs.Lines.{first_unbuilt}

-- The run is that of the script, up to where a line met a full history, if one did; and it is one of repositories. No part is missing
-- for one of its lines.
pub record IsRunOf (script : List Command) (is_cut : Bool) (run : Run) : Type 0 where
  pub built : first_unbuilt script ≡ None
  pub run_is : limited_run (driver_input_of script) script ≡ record { run = run; is_cut = is_cut }
  pub lawful : IsRun run
