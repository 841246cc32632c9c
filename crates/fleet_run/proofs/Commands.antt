-- What each form of line has where it stands, and that the driver's step of it is that of its form.
use Rattle.std.proofs.Common.{◌≡◌, ◌≢◌, ℕ, ◌+◌, ◌<◌, ◌≤◌, ◌^◌, ◌⊎◌, inl, inr, Bool, true, false, List, [], Option, Some, None, length, refl, sym, ap, ◌∙◌, subst, arith}
use Rattle.std.specs.Prelude.{◌==◌, IfSome, if◌then◌else◌, nat_lt}
use Rattle.std.proofs.lemmas.Bool.Decides.{nat_tests}
use Rattle.annex_base.specs.Lines.{IsOneLine}
use Rattle.annex_base.proofs.Conditions.{eqb_other}
use Rattle.annex_base.proofs.Lines.{one_line-members}
use Rattle.annex_base.proofs.Numbers.{below_more}
use Rattle.run_data.specs.Files.{HasPath, kind_of}
use Rattle.run_data.specs.declared.entry.LogFile.{LogFile}
use Rattle.run_data.specs.declared.job.Job.{Job}
use Rattle.run_data.specs.declared.job.JobKind.{JobKind}
use Rattle.union_merge.specs.LineSet.{IsLine}
use Rattle.script_commands.specs.declared.command.Action.{Action}
use Rattle.script_commands.specs.declared.command.Agendum.{Agendum}
use Rattle.script_commands.specs.declared.command.Command.{Command}
use Rattle.script_commands.specs.declared.command.Showing.{Showing}
use Rattle.script_lang.specs.Limits.{first_limit, passed_by}
use Rattle.script_lang.specs.Context.{Context}
use Rattle.script_lang.specs.Preconditions.{IsLogFile, IsSmall}
use Rattle.script_forms.specs.declared.fault.Quantity.TheVariants.{Time}
use Rattle.driver_script.specs.Lines.{is_added, is_built, is_built_action, is_built_job}
use Rattle.fleet_entries.specs.Beginning.{MayBegin}
use Rattle.fleet_entries.specs.Stored.{StoreView}
use Rattle.fleet_entries.specs.Fleets.{FleetView}
use Rattle.fleet_syncs.specs.Jobs.{MayBeginAmong}
use Rattle.fleet_run.specs.Commands.{MayBeDone, does_command}
use Rattle.fleet_entries.specs.AtDriver.{GoesOn, StopsWithin}
use Rattle.run_data.specs.declared.entry.LogFile.TheVariants as files
use Rattle.run_data.specs.declared.job.JobKind.TheVariants as job_kinds
use Rattle.script_commands.specs.declared.command.Command.TheVariants as commands
use Rattle.script_lang.specs.Preconditions as script

-- ---- commands

-- a command is done as its form says
pub as_form : {K : Type 0} (tells : K → StoreView) (command form : Command) (was after : FleetView K) → command ≡ form → GoesOn tells (does_command form) was after → GoesOn tells (does_command command) was after
as_form tells command form was after is goes = subst (λ (x : Command). GoesOn tells (does_command x) was after) (sym is) goes

-- what may be done of a command may be of its form
pub may_as : {K : Type 0} (f : FleetView K) (command form : Command) → command ≡ form → MayBeDone f command → MayBeDone f form
may_as f command form is may = subst (MayBeDone f) is may

-- the line declares or shows something
abbrev pub IsQuiet : Command → Type 0
IsQuiet command = ((a : List ℕ) × (b : List ℕ) × (c : ℕ) × (d : ℕ) × (e : Bool) × (command ≡ commands.Repo a b c d e)) ⊎ ((a : Showing) × (command ≡ commands.Shows a))

-- such a line does nothing
pub quiet_stays : {K : Type 0} (tells : K → StoreView) (command : Command) (f : FleetView K) → IsQuiet command → GoesOn tells (does_command command) f f
quiet_stays tells command f (inl h) = as_form tells command (commands.Repo h.0 h.1 h.2 h.3 h.4) f f h.5 (λ g d stands. stands)
quiet_stays tells command f (inr h) = as_form tells command (commands.Shows h.0) f f h.1 (λ g d stands. stands)

-- no line of this form is built
pub never_unbuilt : (command : Command) → is_built command ≡ true → ((a : ℕ) × (b : List ℕ) × (c : List ℕ) × (command ≡ commands.Damage a b c)) ⊎ ((a : List Agendum) × (command ≡ commands.Par a)) → ⊥
never_unbuilt command built (inl h) = absurd (let no : false ≡ true = ap is_built (sym h.3) ∙ built in cc)
never_unbuilt command built (inr h) = absurd (let no : false ≡ true = ap is_built (sym h.1) ∙ built in cc)

-- ---- actions

-- what an action has where it stands, as its form says
pub stands_as : (context : Context) (action form : Action) → action ≡ form → script.IsValidAction context action → script.IsValidAction context form
stands_as context action form is stands = subst (script.IsValidAction context) is stands

pub built_as : (action form : Action) → action ≡ form → is_built_action action ≡ true → is_built_action form ≡ true
built_as action form is built = ap is_built_action (sym is) ∙ built

pub within_as : (context : Context) (action form : Action) → action ≡ form → first_limit context (commands.Does action) ≡ None → first_limit context (commands.Does form) ≡ None
within_as context action form is within = subst (λ (a : Action). first_limit context (commands.Does a) ≡ None) is within

-- ---- what a line has

-- a text of a line that isn't empty is a line of a file
pub file_line : (line : List ℕ) → line ≢ [] → IsOneLine line → IsLine line
file_line line some one = record { some = some; single = one_line-members line one }

-- a file to which a line may add has a path and a kind
pub added_path : (file : LogFile) → IsLogFile file → is_added file ≡ true → HasPath file
added_path (files.Location key) is added = is
added_path (files.Of kind) is added = is
added_path (files.Other name) is added = absurd (cc)

pub added_kind : (file : LogFile) → is_added file ≡ true → kind_of file ≢ None
added_kind (files.Location key) added none = absurd (cc)
added_kind (files.Of kind) added none = absurd (cc)
added_kind (files.Other name) added none = absurd (cc)

-- a content of a script is short
pub short_content : (content : List ℕ) → IsSmall content → length content < 2 ^ 62
short_content content small = grind arith

-- another repository of the script is another of so many
other_of : (context : Context) (r other : ℕ) (ids : List (List ℕ)) → length context.repos ≤ length ids → script.AreTwo context r other → (other < length ids) × ((r == other) ≡ false)
other_of context r other ids few two = (below_more other (length context.repos) (length ids) two.second few, eqb_other r other (λ same. two.distinct (sym same)))

-- a job that is built may begin among so many repositories, where its line stands
job_begins : (context : Context) (r : ℕ) (kind : JobKind) (peer : Option ℕ) (ids : List (List ℕ)) → length context.repos ≤ length ids → is_built_job kind peer ≡ true → IfSome peer (λ p. script.AreTwo context r p)
    → MayBegin (record { number = r; ids = ids }) kind peer
job_begins context r job_kinds.Drop None ids few built two = tt
job_begins context r job_kinds.Get None ids few built two = tt
job_begins context r job_kinds.Copy None ids few built two = absurd (cc)
job_begins context r job_kinds.MoveTo None ids few built two = absurd (cc)
job_begins context r job_kinds.MoveFrom None ids few built two = absurd (cc)
job_begins context r kind (Some peer) ids few built two = other_of context r peer ids few two

pub may_begin : (context : Context) (r : ℕ) (job : Job) (count : ℕ) → length context.repos ≤ count → is_built_job job.kind job.peer ≡ true → script.IsJob context r job → MayBeginAmong count r job
may_begin context r job count few built stands ids many = job_begins context r job.kind job.peer ids (subst (λ (n : ℕ). length context.repos ≤ n) (sym many) few) built stands.peer

-- a wait that passes no limit ends in time
pub in_time : (waited milliseconds : ℕ) → passed_by Time (waited + milliseconds) None ≡ None → waited + milliseconds ≤ 1000000000000
in_time waited milliseconds within = go (nat_lt 1000000000000 (waited + milliseconds)) refl within
  where
    go : (b : Bool) → nat_lt 1000000000000 (waited + milliseconds) ≡ b → (if b then Some Time else None) ≡ None → waited + milliseconds ≤ 1000000000000
    go true e within = absurd (cc)
    go false e within = grind (arith, nat_tests)

-- a command stops as its form does
pub stops_as : {K : Type 0} (tells : K → StoreView) (command form : Command) (was after : FleetView K) → command ≡ form → StopsWithin tells (does_command form) was after → StopsWithin tells (does_command command) was after
stops_as tells command form was after is stops = subst (λ (x : Command). StopsWithin tells (does_command x) was after) (sym is) stops
