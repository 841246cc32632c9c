-- The lines of jobs that end or find no slot, of crashes, faults and syncs (own).
use Rattle.std.specs.Prelude.{ℕ, ◌-◌, Bool, false, ◌&&◌, if◌then◌else◌, nat_lt, List, [], ◌++◌, codes, Option, Some, None, slice_get}
use Rattle.std.specs.Fmt.{decimal}
use Rattle.std.specs.List.{flat_map, range_with_len}
use Rattle.run_data.specs.declared.run.Run.{Run}
use Rattle.run_data.specs.declared.run.RepoView.{RepoView}
use Rattle.run_data.specs.declared.entry.Entry.{Entry}
use Rattle.run_data.specs.declared.entry.EntryKind.{EntryKind}
use Rattle.run_data.specs.declared.entry.EntryKind.TheVariants.{Crash, End, Fault}
use Rattle.run_data.specs.declared.job.Job.{Job}
use Rattle.run_data.specs.declared.job.Outcome.{Outcome}
use Rattle.annex_base.specs.declared.kinds.Call.{Call}
use Rattle.node_model.specs.Slots.{RunningJob, is_begin}
use Rattle.run_model.specs.Past.{begun_job, is_of, jobs}
use Rattle.run_model.specs.Safety.{past_at}
use Rattle.run_model.specs.Syncs.{SyncJobs, SyncNumbers, sync_numbers, tells_end}
use Rattle.crashed_jobs.specs.Crashed.{crashed_outcome, in_slot}
use Rattle.script_words.specs.Fields.{call_word}
use Rattle.run_text.specs.Names.{name_of}
use Rattle.run_text.specs.Jobs.{begun_text}
use Rattle.run_text.specs.Outcomes.{outcome_text}
use Rattle.script_commands.specs.declared.command.Action.{Action}
use Rattle.script_commands.specs.declared.command.Action.TheVariants as actions
use Rattle.script_commands.specs.declared.command.Command.{Command}
use Rattle.script_commands.specs.declared.command.Command.TheVariants as commands

abbrev pub end_line : List RepoView → ℕ → Option Job → Outcome → List ℕ
end_line repos r job outcome = begun_text repos r job ++ outcome_text repos job outcome ++ codes "\n"

-- a call of the store of r failed
abbrev pub fault_line : List RepoView → ℕ → Call → List ℕ
fault_line repos r call = codes "fault " ++ name_of repos r ++ codes " " ++ call_word call ++ codes "\n"

-- the line of a job that a crash of r ended, if there is one
abbrev pub crashed_line : List RepoView → List Entry → ℕ → Option RunningJob → List ℕ
crashed_line repos past r None = []
crashed_line repos past r (Some j) = end_line repos r (Some j.what) (crashed_outcome past r j)

-- the jobs that a crash of r ended, in order of their slots
abbrev pub crash_lines : List RepoView → List Entry → ℕ → List ℕ
crash_lines repos past r = flat_map (λ slot. crashed_line repos past r (in_slot (jobs past r) slot)) (range_with_len 0 4)

-- job j of r ended; where it is one of these syncs' and is done, no line tells it
abbrev pub told_line : List RepoView → List SyncJobs → List Entry → ℕ → ℕ → Outcome → List ℕ
told_line repos syncs past r j outcome = if tells_end syncs r j outcome then end_line repos r (begun_job past r j) outcome else []

abbrev pub kind_line : List RepoView → List SyncJobs → List Entry → ℕ → EntryKind → List ℕ
kind_line repos syncs past r (End j outcome) = told_line repos syncs past r j outcome
kind_line repos syncs past r (Fault call by) = fault_line repos r call
kind_line repos syncs past r (Crash clock) = crash_lines repos past r
kind_line repos syncs past r _ = []

abbrev pub repo_line : List RepoView → List SyncJobs → List Entry → Option ℕ → EntryKind → List ℕ
repo_line repos syncs past None kind = []
repo_line repos syncs past (Some r) kind = kind_line repos syncs past r kind

abbrev pub entry_line : List RepoView → List SyncJobs → List Entry → Option Entry → List ℕ
entry_line repos syncs past None = []
entry_line repos syncs past (Some e) = repo_line repos syncs past e.repo e.kind

-- The lines of the entries from one place up to another, with these syncs: one for each job that ends, also by a crash, but
-- for those of syncs that are done; and one for each fault.
abbrev pub outcome_lines : Run → List SyncJobs → ℕ → ℕ → List ℕ
outcome_lines run syncs from upto = flat_map (λ place. entry_line run.repos syncs (past_at run place) (slice_get run.entries place)) (range_with_len from (upto - from))

-- the entry is the beginning of a job of r
abbrev pub begins_job : ℕ → Option Entry → Bool
begins_job r None = false
begins_job r (Some e) = is_of r e && is_begin e.kind

-- A line that begins a job of r has made the entries from one place up to another. A job that gets a slot begins by the
-- first of them.
abbrev pub noslot_line : Run → ℕ → ℕ → ℕ → List ℕ
noslot_line run from upto r =
    if nat_lt from upto && begins_job r (slice_get run.entries from) then [] else codes "noslot " ++ name_of run.repos r ++ codes "\n"

-- the line that no slot was free, for an action that begins a job
abbrev pub action_slot : Run → ℕ → ℕ → Action → List ℕ
action_slot run from upto (actions.Run r job) = noslot_line run from upto r
action_slot run from upto (actions.Begin r job) = noslot_line run from upto r
action_slot run from upto action = []

abbrev pub slot_text : Run → ℕ → ℕ → Command → List ℕ
slot_text run from upto (commands.Does action) = action_slot run from upto action
slot_text run from upto command = []

-- ---- syncs

-- the numbers of a sync of r
abbrev pub sync_line : List RepoView → ℕ → SyncNumbers → List ℕ
sync_line repos r n =
    codes "sync " ++ name_of repos r ++ codes " get=" ++ decimal n.get ++ codes " put=" ++ decimal n.put ++ codes " drop=" ++ decimal n.drop
    ++ codes " refused=" ++ decimal n.refused ++ codes "\n"

-- the line of an action that has made the entries from one place up to another, if it is a sync
abbrev pub action_sync : Run → ℕ → ℕ → Action → List ℕ
action_sync run from upto (actions.Sync r) = sync_line run.repos r (sync_numbers run r from upto)
action_sync run from upto action = []

abbrev pub sync_text : Run → ℕ → ℕ → Command → List ℕ
sync_text run from upto (commands.Does action) = action_sync run from upto action
sync_text run from upto command = []
