-- A line waits as long for the driver as for the lines behind it.
use Rattle.std.proofs.Common.{◌≡◌, refl}
use Rattle.script_commands.specs.declared.command.Action.{Action}
use Rattle.script_commands.specs.declared.command.Action.TheVariants as actions
use Rattle.script_commands.specs.declared.command.Command.{Command}
use Rattle.script_commands.specs.declared.command.Command.TheVariants as commands
use Rattle.script_lang.specs.Script.{wait_of}
use Rattle.driver_model.specs.Lines.{waited_by}

action_waits : (a : Action) → waited_by (commands.Does a) ≡ wait_of (commands.Does a)
action_waits (actions.Wait milliseconds) = refl
action_waits (actions.Have r key content) = refl
action_waits (actions.SetPart r key content) = refl
action_waits (actions.Add r path key content) = refl
action_waits (actions.File path key) = refl
action_waits (actions.Set r kind topic value) = refl
action_waits (actions.Raw r file line) = refl
action_waits (actions.Merge r other) = refl
action_waits (actions.Compact r) = refl
action_waits (actions.Sync r) = refl
action_waits (actions.Begin r job) = refl
action_waits (actions.Run r job) = refl
action_waits (actions.Turns r turns) = refl
action_waits actions.Settle = refl
action_waits (actions.Close r other) = refl
action_waits (actions.Crash r clock) = refl
action_waits (actions.Fail r call) = refl

pub wait_is : (c : Command) → waited_by c ≡ wait_of c
wait_is (commands.Does a) = action_waits a
wait_is (commands.Repo name id offset version locks) = refl
wait_is (commands.Damage r key content) = refl
wait_is (commands.Par lines) = refl
wait_is (commands.Shows what) = refl
