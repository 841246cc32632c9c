-- The repositories that a script declares, and which forms of line are built (own).
use Rattle.std.specs.Prelude.{ℕ, Bool, true, false, not, List, [], ◌∷◌, ◌++◌, map, position, Option, is_some}
use Rattle.run_data.specs.declared.entry.LogFile.{LogFile}
use Rattle.run_data.specs.declared.entry.LogFile.TheVariants as files
use Rattle.run_data.specs.declared.job.JobKind.{JobKind}
use Rattle.run_data.specs.declared.job.JobKind.TheVariants as job_kinds
use Rattle.run_data.specs.declared.run.RepoView.{RepoView}
use Rattle.script_commands.specs.declared.command.Action.{Action}
use Rattle.script_commands.specs.declared.command.Action.TheVariants as actions
use Rattle.script_commands.specs.declared.command.Command.{Command}
use Rattle.script_commands.specs.declared.command.Command.TheVariants as commands
use Rattle.script_commands.specs.declared.command.Showing.{Showing}
use Rattle.script_commands.specs.declared.command.Showing.TheVariants as showings
use Rattle.script_forms.specs.declared.context.Repository.{Repository}
use Rattle.script_lang.specs.Script as script

-- ---- the repositories of a script

-- a repository of a script as runs show it
abbrev pub view_of : Repository → RepoView
view_of r = record { name = r.name; id = r.id; offset = r.offset; version = r.version; locks = r.locks }

-- the repositories that the command declares
abbrev pub declared_by : Command → List RepoView
declared_by command = map view_of (script.declared_by command)

-- those that the commands declare, in order of number
abbrev pub repos_of : List Command → List RepoView
repos_of [] = []
repos_of (c ∷ cs) = declared_by c ++ repos_of cs

-- ---- the forms that are built

-- the file to which a line may add: any that is known
abbrev pub is_added : LogFile → Bool
is_added (files.Location key) = true
is_added (files.Of kind) = true
is_added (files.Other name) = false

-- the log of one of the kinds
abbrev pub is_shown : LogFile → Bool
is_shown (files.Location key) = false
is_shown (files.Of kind) = true
is_shown (files.Other name) = false

-- a drop, a get, or a copy or a move with its peer
abbrev pub is_built_job : JobKind → Option ℕ → Bool
is_built_job job_kinds.Drop peer = true
is_built_job job_kinds.Get peer = true
is_built_job kind peer = is_some peer

abbrev pub is_built_action : Action → Bool
is_built_action (actions.Have r key content) = true
is_built_action (actions.SetPart r key content) = true
is_built_action (actions.Add r path key content) = true
is_built_action (actions.File path key) = true
is_built_action (actions.Set r kind topic value) = true
is_built_action (actions.Raw r file line) = is_added file
is_built_action (actions.Merge r other) = true
is_built_action (actions.Compact r) = true
is_built_action (actions.Sync r) = true
is_built_action (actions.Begin r job) = is_built_job job.kind job.peer
is_built_action (actions.Run r job) = is_built_job job.kind job.peer
is_built_action (actions.Turns r turns) = true
is_built_action actions.Settle = true
is_built_action (actions.Close r other) = true
is_built_action (actions.Crash r clock) = true
is_built_action (actions.Wait milliseconds) = true
is_built_action (actions.Fail r call) = true

abbrev pub is_built_showing : Showing → Bool
is_built_showing (showings.Presence k) = true
is_built_showing (showings.Claims r k) = true
is_built_showing (showings.Location r k) = true
is_built_showing (showings.Log r file) = is_shown file
is_built_showing (showings.Logs r) = true
is_built_showing (showings.Numbers r path) = true
is_built_showing (showings.Level r target) = true
is_built_showing (showings.Wants r target path) = true
is_built_showing (showings.Row r k) = true
is_built_showing (showings.Plan r) = true
is_built_showing showings.Totals = true
is_built_showing showings.Journal = true

-- no part is missing to do what the command says
abbrev pub is_built : Command → Bool
is_built (commands.Repo name id offset version locks) = true
is_built (commands.Does action) = is_built_action action
is_built (commands.Damage r key content) = false
is_built (commands.Par lines) = false
is_built (commands.Shows what) = is_built_showing what

-- the place of the first command for which a part is missing
abbrev pub first_unbuilt : List Command → Option ℕ
first_unbuilt all = position (λ c. not (is_built c)) all
