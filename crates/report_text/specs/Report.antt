-- The report of a run (own).
use Rattle.std.specs.Prelude.{ℕ, ◌+◌, List, [], ◌∷◌, ◌++◌, length, map, take, codes, Option, Some, None}
use Rattle.std.specs.Fmt.{decimal}
use Rattle.std.specs.List.{flat_map, range_with_len}
use Rattle.run_data.specs.declared.run.RepoView.{RepoView}
use Rattle.run_data.specs.declared.run.Run.{Run}
use Rattle.annex_base.specs.Settings.{Settings}
use Rattle.union_merge.specs.Branch.{lines_at}
use Rattle.hash_dirs.specs.LogPath.{location_path}
use Rattle.annex_key.specs.Tree.{Entries, key_of, paths_of}
use Rattle.trust_groups.specs.Settings.{settings}
use Rattle.run_data.specs.Files.{file_path}
use Rattle.run_paths.specs.Paths.{with_marks}
use Rattle.run_text.specs.Words.{joined_text}
use Rattle.run_text.specs.Names.{name_of}
use Rattle.sync_core.specs.Plan.{plan}
use Rattle.journal_text.specs.Journal.{journal_of}
use Rattle.report_tables.specs.Before.{branch_at, possessors, row_at, total_at}
use Rattle.run_model.specs.Syncs.{SyncJobs, jobs_between}
use Rattle.shown_text.specs.Lines.{outcome_lines, slot_text, sync_text}
use Rattle.shown_text.specs.Plans.{plan_text}
use Rattle.shown_text.specs.Row.{row_text}
use Rattle.shown_text.specs.Shown.{claims_text, location_text, log_text, named_text, numbers_for, trust_text}
use Rattle.shown_text.specs.Wanted.{wants_text}
use Rattle.script_forms.specs.Changes.{Change, Declares, Puts, Brings, Adds, Names, Waits, Nothing, change_of}
use Rattle.script_commands.specs.declared.command.NamedKey.{NamedKey}
use Rattle.script_commands.specs.declared.command.Action.{Action}
use Rattle.script_commands.specs.declared.command.Action.TheVariants as actions
use Rattle.script_commands.specs.declared.command.Command.{Command}
use Rattle.script_commands.specs.declared.command.Command.TheVariants as commands
use Rattle.script_commands.specs.declared.command.Showing.{Showing}
use Rattle.script_commands.specs.declared.command.Showing.TheVariants as showings

-- A line ends with a newline. Lists are joined by commas, names after `presence` and `claims` by spaces; an empty list
-- is a dash.

-- what its lines set
abbrev pub settings_at : Run → ℕ → ℕ → Settings
settings_at run place r = settings (lines_at (branch_at run place r))

abbrev pub presence_text : Run → ℕ → NamedKey → List ℕ
presence_text run place k = codes "presence " ++ named_text k ++ codes " " ++ joined_text 32 (name_of run.repos) (possessors run place k.key) ++ codes "\n"

-- how many contents each repository has
abbrev pub total_word : List RepoView → ℕ → ℕ → List ℕ
total_word repos r count = name_of repos r ++ codes "=" ++ decimal count

abbrev pub totals_text : Run → ℕ → List ℕ
totals_text run place = codes "totals " ++ joined_text 32 (λ r. total_word run.repos r (total_at run place r)) (range_with_len 0 (length run.repos)) ++ codes "\n"

-- the tree after so many changes
abbrev pub tree_after : Run → ℕ → Entries
tree_after run changes = with_marks [] (take changes run.tree)

-- whether a repository wants and requires the content of a path, by these settings; a path of no key has no text
abbrev pub wants_in : Run → ℕ → ℕ → List ℕ → Settings → Entries → Option (List ℕ) → List ℕ
wants_in run r target path s tree None = []
wants_in run r target path s tree (Some key) = wants_text run r target path s key (paths_of tree key)

abbrev pub wants_at : Run → ℕ → ℕ → List ℕ → Settings → Entries → List ℕ
wants_at run r target path s tree = wants_in run r target path s tree (key_of tree path)

-- what a repository is to do by these settings, for the keys of this tree
abbrev pub planned_text : Run → ℕ → Settings → Entries → List ℕ
planned_text run r s tree = plan_text run r (plan s tree r (map (λ repo. repo.id) run.repos))

-- what is shown at a place, after lines that made so many changes of the tree
abbrev pub show_text : Run → ℕ → ℕ → Showing → List ℕ
show_text run place changes (showings.Presence k) = presence_text run place k
show_text run place changes (showings.Claims r k) = claims_text run r k ((settings_at run place r).claims k.key)
show_text run place changes (showings.Location r k) = location_text run r k (lines_at (branch_at run place r) (location_path k.key))
show_text run place changes (showings.Log r file) = log_text run r (file_path file) (lines_at (branch_at run place r) (file_path file))
show_text run place changes (showings.Logs r) = flat_map (λ f. log_text run r f.0 f.1) (branch_at run place r)
show_text run place changes (showings.Numbers r path) = numbers_for run r path (settings_at run place r)
show_text run place changes (showings.Level r target) = trust_text run r target (settings_at run place r)
show_text run place changes (showings.Wants r target path) = wants_at run r target path (settings_at run place r) (tree_after run changes)
show_text run place changes (showings.Row r k) = row_text run r k (row_at run place r k.key)
show_text run place changes (showings.Plan r) = planned_text run r (settings_at run place r) (tree_after run changes)
show_text run place changes showings.Totals = totals_text run place
show_text run place changes showings.Journal = journal_of run.repos (take changes run.tree) (take place run.entries)

-- what a line shows
abbrev pub shown_by : Run → ℕ → ℕ → Command → List ℕ
shown_by run place changes (commands.Shows what) = show_text run place changes what
shown_by run place changes command = []

-- what a line of the script prints: that no slot was free, what ended and what failed while it was done, the numbers of a
-- sync, and what it shows then. The syncs are those so far, with its own.
abbrev pub line_text : Run → List SyncJobs → ℕ → ℕ → ℕ → Command → List ℕ
line_text run syncs from upto changes c =
    slot_text run from upto c ++ outcome_lines run syncs from upto ++ sync_text run from upto c ++ shown_by run upto changes c

-- the jobs of an action that has made the entries from one place up to another, if it is a sync
abbrev pub syncs_by : Run → ℕ → ℕ → Action → List SyncJobs
syncs_by run from upto (actions.Sync r) = jobs_between run r from upto ∷ []
syncs_by run from upto action = []

abbrev pub syncs_of : Run → ℕ → ℕ → Command → List SyncJobs
syncs_of run from upto (commands.Does action) = syncs_by run from upto action
syncs_of run from upto command = []

-- how many changes of the tree it makes: one where a path gets a key
abbrev pub tree_changes : Change → ℕ
tree_changes (Declares repository) = 0
tree_changes (Puts r key content) = 0
tree_changes (Brings content) = 0
tree_changes (Adds r path key content) = 1
tree_changes (Names path key) = 1
tree_changes (Waits milliseconds) = 0
tree_changes Nothing = 0

-- how many changes of the tree a line makes
abbrev pub changes_of : Command → ℕ
changes_of c = tree_changes (change_of c)

-- the report from a place on, after lines that made so many changes of the tree and these syncs
abbrev pub report_from : Run → ℕ → ℕ → List SyncJobs → List Command → List ℕ → List ℕ
report_from run from changes syncs (c ∷ cs) (mark ∷ marks) =
    line_text run (syncs ++ syncs_of run from mark c) from mark changes c
    ++ report_from run mark (changes + changes_of c) (syncs ++ syncs_of run from mark c) cs marks
report_from run from changes syncs cs [] = outcome_lines run syncs from (length run.entries)
report_from run from changes syncs [] marks = outcome_lines run syncs from (length run.entries)

abbrev pub report : List Command → Run → List ℕ
report script run = report_from run 0 0 [] script run.marks
