-- The sequential driver (own): the run that it makes of a script, line by line.
use Rattle.std.specs.Prelude.{ℕ, zero, suc, List, [], ◌∷◌, ◌++◌, length, reverse}
use Rattle.run_data.specs.declared.run.Run.{Run}
use Rattle.script_commands.specs.declared.command.Action.{Action}
use Rattle.script_commands.specs.declared.command.Action.TheVariants as actions
use Rattle.script_commands.specs.declared.command.Action.TheVariants.{Have, SetPart, Add, File, Set, Raw, Merge, Compact, Sync, Begin, Turns, Settle, Close, Crash, Wait, Fail}
use Rattle.script_commands.specs.declared.command.Command.{Command}
use Rattle.script_commands.specs.declared.command.Command.TheVariants.{Does, Par}
use Rattle.driver_model.specs.Driver.{Driver, DriverInput, at_first}
use Rattle.driver_model.specs.ScriptSteps.{begins, closes, compacts, crashes, enters, has, merges, sets, sets_part, waits, will_fail, writes}
use Rattle.driver_model.specs.Turning.{turn}
use Rattle.driver_model.specs.Rounds.{blocks, settles}
use Rattle.driver_model.specs.Syncs.{syncs}

abbrev pub turns : DriverInput → ℕ → ℕ → Driver → Driver
turns g r zero d = d
turns g r (suc n) d = turns g r n (turn g r d)

-- what an action does
abbrev pub acts : DriverInput → Action → Driver → Driver
acts g (Have r key bytes) d = has g r key bytes d
acts g (SetPart r key bytes) d = sets_part g r key bytes d
acts g (Add r path key bytes) d = has g r key bytes (enters path key d)
acts g (File path key) d = enters path key d
acts g (Set r kind topic value) d = sets g r kind topic value d
acts g (Raw r file line) d = writes r file line d
acts g (Merge r other) d = merges r other d
acts g (Compact r) d = compacts r d
acts g (Sync r) d = syncs g r d
acts g (Begin r job) d = begins r job d
acts g (actions.Run r job) d = settles g (begins r job d)
acts g (Turns r n) d = turns g r n d
acts g Settle d = settles g d
acts g (Close r other) d = closes g r other d
acts g (Crash r clock) d = crashes g r clock d
acts g (Wait milliseconds) d = waits milliseconds d
acts g (Fail r call) d = will_fail r call d

-- What a line does. One that declares a repository or shows something does nothing; no run has a `damage` line yet (`IsOne`).
abbrev pub does : DriverInput → Command → Driver → Driver
does g (Does action) d = acts g action d
does g (Par lines) d = blocks g lines d
does g line d = d

-- the line is done
abbrev pub with_mark : Driver → Driver
with_mark d = record d { marks = d.marks ++ length d.past ∷ [] }

-- the driver after these lines, one after the other
abbrev pub drives : DriverInput → List Command → Driver → Driver
drives g [] d = d
drives g (line ∷ lines) d = drives g lines (with_mark (does g line d))

abbrev pub driver_after : DriverInput → List Command → Driver
driver_after g lines = drives g lines at_first

abbrev pub run_with : DriverInput → Driver → Run
run_with g d = record { repos = g.repos; entries = reverse d.past; tree = d.tree; marks = d.marks }

-- the run of a script
abbrev pub run_of : DriverInput → List Command → Run
run_of g lines = run_with g (driver_after g lines)
