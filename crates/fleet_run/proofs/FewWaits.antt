-- A line that is built adds one wait at most.
use Rattle.std.proofs.Common.{◌≡◌, ℕ, ◌+◌, true, List, arith}
use Rattle.run_data.specs.declared.entry.Entry.{Entry}
use Rattle.script_commands.specs.declared.command.Action.{Action}
use Rattle.script_commands.specs.declared.command.Command.{Command}
use Rattle.driver_model.specs.Driver.{Driver, DriverInput}
use Rattle.driver_model.specs.Driving.{acts, does}
use Rattle.driver_model.specs.ScriptSteps.{begins, enters}
use Rattle.driver_script.specs.Lines.{is_built, is_built_action}
use Rattle.fleet_entries.specs.AtDriver.{IsFew}
use Rattle.script_commands.specs.declared.command.Action.TheVariants as actions
use Rattle.script_commands.specs.declared.command.Command.TheVariants as commands
use Rattle.fleet_entries.proofs.Few.{begins_few, closes_few, compacts_few, crashes_few, fewer, has_few, merges_few, part_few, sets_few, settles_few, syncs_few, turns_few, waits_few, writes_few}

module _ (most : ℕ) (g : DriverInput) (d : Driver) (few : IsFew most d.past) where
  -- with a wait more
  abbrev FewMore : Driver → Type 0
  FewMore after = IsFew (most + 1) after.past

  no_wait : (past : List Entry) → IsFew most past → IsFew (most + 1) past
  no_wait past few = fewer most (most + 1) past (omega arith) few

  quiet : FewMore d
  quiet = no_wait d.past few

  action_few : (a : Action) → is_built_action a ≡ true → FewMore (acts g a d)
  action_few (actions.Have r key content) built = no_wait _ (has_few most g r key content d few)
  action_few (actions.SetPart r key content) built = no_wait _ (part_few most g r key content d few)
  action_few (actions.Add r path key content) built = no_wait _ (has_few most g r key content (enters path key d) few)
  action_few (actions.File path key) built = quiet
  action_few (actions.Set r kind topic value) built = no_wait _ (sets_few most g r kind topic value d few)
  action_few (actions.Raw r file line) built = no_wait _ (writes_few most r file line d few)
  action_few (actions.Merge r other) built = no_wait _ (merges_few most r other d few)
  action_few (actions.Compact r) built = no_wait _ (compacts_few most r d few)
  action_few (actions.Sync r) built = no_wait _ (syncs_few most g r d few)
  action_few (actions.Begin r job) built = no_wait _ (begins_few most r job d few)
  action_few (actions.Run r job) built = no_wait _ (settles_few most g (begins r job d) (begins_few most r job d few))
  action_few (actions.Turns r n) built = no_wait _ (turns_few most g r n d few)
  action_few actions.Settle built = no_wait _ (settles_few most g d few)
  action_few (actions.Close r other) built = no_wait _ (closes_few most g r other d few)
  action_few (actions.Crash r clock) built = no_wait _ (crashes_few most g r clock d few)
  action_few (actions.Wait milliseconds) built = waits_few most milliseconds d few
  action_few (actions.Fail r call) built = quiet

  -- a command that is built adds one wait at most
  pub does_few : (command : Command) → is_built command ≡ true → FewMore (does g command d)
  does_few (commands.Does action) built = action_few action built
  does_few (commands.Par lines) built = absurd (cc)
  does_few (commands.Repo name id offset version locks) built = quiet
  does_few (commands.Damage r key content) built = quiet
  does_few (commands.Shows what) built = quiet
