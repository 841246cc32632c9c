-- What the step of one job makes of the list and the table; for private contracts (own).
use Rattle.std.specs.Prelude.{◌≡◌, ◌&&◌, ℕ, Bool, true, false, if◌then◌else◌, not, List, [], ◌∷◌, ◌++◌, length}
use Rattle.annex_base.specs.Settings.{Settings}
use Rattle.link_ring.specs.Ends.{EndView}
use Rattle.node_model.specs.Clocks.{ClockSet}
use Rattle.content_lock.specs.Rows.{Rows, bar_at, is_filling}
use Rattle.drop_phases.specs.Doing.{OthersStay}
use Rattle.node_tasks.specs.Places.{PlaceView}
use Rattle.transfer_turns.specs.Steps.{Seen, fills_key}
use Rattle.node_tasks.specs.declared.task.Task.{Task}
use Rattle.node_tasks.specs.Acting.{Acts, LeavesSo, Makes}
use Rattle.node_tasks.specs.Owing.{Owes}
use Rattle.node_tasks.specs.Tasks.{number_of, slot_of, work_now}
use Rattle.node_tasks.specs.Telling.{takes_in}
use Rattle.running_jobs.specs.declared.acted.Acted.{Acted}
use Rattle.running_jobs.specs.declared.finding.Found.{Found}
use Rattle.running_jobs.specs.Acting.{output_of}

-- the job on the list after its step: one that has ended is off
abbrev pub task_after : Bool → Task → List Task
task_after true t = []
task_after false t = t ∷ []

-- what a job that has ended had of the table is given back; one that goes on keeps it
pub record Settles (ended : Bool) (t : Task) (was now : Rows) : Type 0 where
  pub stays : ended ≡ false → now ≡ was
  pub holds : now.holds ≡ was.holds
  pub bars : (key : List ℕ) → bar_at now key ≡ bar_at was key
  pub others : OthersStay (number_of t) was now
  pub filled : (key : List ℕ) → is_filling now key ≡ (if ended then (not (fills_key (work_now t) key) && is_filling was key) else is_filling was key)

-- of the jobs before and behind one of them nothing changes; that one makes its step, and is settled
pub record Changes (p : PlaceView) (clock : ClockSet) (links : List EndView) (settings : Settings) (time number : ℕ) (found : Found) (rows rows' : Rows) (k k' : Seen) (was now : List Task) (a : Acted) : Type 0 where
  pub front : List Task
  pub back : List Task
  pub t : Task
  pub t' : Task
  pub mid : Rows
  pub place : length front ≡ found.index
  pub was_is : was ≡ front ++ t ∷ back
  pub now_is : now ≡ front ++ (task_after a.ended t' ++ back)
  pub job : a.job ≡ number_of t
  pub slot : a.slot ≡ slot_of t
  pub takes : a.takes ≡ takes_in found.told
  pub owes : Owes links t found.told a.owes
  pub acts : Acts p clock links settings time number k.contents k.parts rows t t' found.told (output_of a)
  pub makes : Makes p clock links settings time number k.contents k.parts rows k.failing k'.failing t found.told (output_of a)
  pub leaves : LeavesSo p number rows mid k k' t t' found.told (output_of a)
  pub settled : Settles a.ended t' mid rows'
