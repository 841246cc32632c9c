-- What a step of the jobs leaves of the table, the store and the jobs (own).
use Rattle.std.specs.Prelude.{◌≡◌, ◌≢◌, ℕ, ◌≤◌, ◌<◌, true, false, Bool, List, length, map, Option, Some, None, is_some}
use Rattle.std.specs.Option.{ForSome, option_map, option_to_list}
use Rattle.annex_base.specs.Lists.{Each, Member}
use Rattle.link_ring.specs.Ends.{EndView}
use Rattle.object_store.specs.Stores.{AreSmallParts}
use Rattle.content_lock.specs.Rows.{Rows, bar_at}
use Rattle.node_model.specs.OwedLines.{told_frame}
use Rattle.node_model.specs.Rows.{bar_after, holds_after}
use Rattle.owed_lines.specs.Lines.{line_of}
use Rattle.drop_phases.specs.Doing.{OthersStay}
use Rattle.node_tasks.specs.Waiting.{WaitsFor, taken_by}
use Rattle.transfer_turns.specs.Steps.{Seen}
use Rattle.node_tasks.specs.declared.readiness.Told.{Told}
use Rattle.node_tasks.specs.declared.task.Task.{Task}
use Rattle.node_tasks.specs.Acting.{LeavesSo as TaskLeaves}
use Rattle.node_tasks.specs.Tasks.{slot_of, work_now}
use Rattle.node_tasks.specs.Telling.{IsToldTo, takes_in}
use Rattle.running_jobs.specs.declared.acted.Acted.{Acted}
use Rattle.running_jobs.specs.Acting.{IsKindOf, output_of}
use Rattle.running_jobs.specs.Running.{AreAllFed, AreFilled, Jobs, fills_at, given_of, job_at}

-- the job that acted, what it was told, the line that it owes by the frame, of one of the repositories, and what its step left; where it
-- ended, what it had of the table was then given up
pub record ActsOf (links : List EndView) (was : Jobs) (rows rows' : Rows) (k k' : Seen) (a : Acted) : Type 0 where
  pub job : Task
  pub next : Task
  pub told : Told
  pub found : job_at was.running a.job ≡ Some job
  pub slot : a.slot ≡ slot_of job
  pub takes : a.takes ≡ takes_in told
  pub hears : IsToldTo links job told
  pub owes : option_to_list (option_map line_of a.owes) ≡ told_frame (Some (work_now job)) (taken_by links a.slot a.takes)
  pub among : ForSome a.owes (λ l. l.repo < length was.place.ids)
  pub mid : Rows
  pub entry : ℕ  -- the number that its entry is to have
  pub leaves : TaskLeaves was.place entry rows mid k k' job next told (output_of a)
  pub stays : a.ended ≡ false → rows' ≡ mid

-- what becomes of the jobs: the one that acted goes on, or is off the list; each other is as it was; none is new, nor given other paths
pub record JobsGoOn (was now : List Task) (next : Task) (a : Acted) : Type 0 where
  pub onward : a.ended ≡ false → job_at now a.job ≡ Some next
  pub off : a.ended ≡ true → job_at now a.job ≡ None
  pub apart : (job : ℕ) → job ≢ a.job → job_at now job ≡ job_at was job
  pub given : Each (λ t. Member (given_of t) (map given_of was)) now

-- of the table: holds and bars as after the entry; what others have, they have; the filled keys are those of the jobs still, and the others'
pub record RowsGoOn (was now : List Task) (rows rows' : Rows) (a : Acted) : Type 0 where
  pub after : rows'.holds ≡ holds_after rows.holds a.kind
  pub bars : (key : List ℕ) → bar_at rows' key ≡ bar_after key (bar_at rows key) a.kind
  pub others : OthersStay a.job rows rows'
  pub filled : (others : List ℕ → Bool) → AreFilled rows was others → AreFilled rows' now others

-- of the store's parts: those that no job filled stay, small ones stay small, and what each job has taken of its own is the store's
pub record PartsGoOn (was now : List Task) (k k' : Seen) : Type 0 where
  pub told : is_some k'.parts ≡ is_some k.parts
  pub fed : ForSome k.parts (λ q. AreAllFed q was → ForSome k'.parts (λ q'. AreAllFed q' now))
  pub same : ForSome k.parts (λ q. ForSome k'.parts (λ q'. (key : List ℕ) → fills_at was key ≡ false → q' key ≡ q key))
  pub small : AreSmallParts k.parts → AreSmallParts k'.parts

pub record Leaves (links : List EndView) (was now : Jobs) (rows rows' : Rows) (k k' : Seen) (a : Acted) : Type 0 where
  pub slot : a.slot < 4
  pub kind : IsKindOf a.job a
  pub waits : WaitsFor links a.slot a.takes
  pub place : now.place ≡ was.place
  pub begun : now.begun ≡ was.begun
  pub acts : ActsOf links was rows rows' k k' a
  pub jobs : JobsGoOn was.running now.running acts.next a
  pub table : RowsGoOn was.running now.running rows rows' a
  pub parts : PartsGoOn was.running now.running k k'

-- nothing was done: all is as it was, but for the count of the store's faults
pub record Stays {X : Type 0} (was now : X) (rows rows' : Rows) (k k' : Seen) : Type 0 where
  pub jobs : now ≡ was
  pub table : rows' ≡ rows
  pub contents : k'.contents ≡ k.contents
  pub parts : k'.parts ≡ k.parts
  pub records : k'.records ≡ k.records
  pub files : k'.files ≡ k.files
  pub later : k.faults ≤ k'.faults
  pub failing : k'.failing ≡ k.failing

-- where no job has a step, nothing changes
abbrev pub LeavesSo : List EndView → Jobs → Jobs → Rows → Rows → Seen → Seen → Option Acted → Type 0
LeavesSo links was now rows rows' k k' None = (now ≡ was) × (rows' ≡ rows) × (k' ≡ k)
LeavesSo links was now rows rows' k k' (Some a) = Leaves links was now rows rows' k k' a
