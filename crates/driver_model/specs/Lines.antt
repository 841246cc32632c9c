-- How long a line waits (own).
use Rattle.std.specs.Prelude.{ℕ}
use Rattle.script_commands.specs.declared.command.Action.TheVariants.{Wait}
use Rattle.script_commands.specs.declared.command.Command.{Command}
use Rattle.script_commands.specs.declared.command.Command.TheVariants.{Does}

-- the milliseconds that the line waits
abbrev pub waited_by : Command → ℕ
waited_by (Does (Wait milliseconds)) = milliseconds
waited_by line = 0
