-- A job that begins (own).
use Rattle.std.specs.Prelude.{◌≡◌, ◌≢◌, ℕ, ◌<◌, ◌+◌, ◌==◌, false, List, [], ◌∷◌, length, map, Option, Some, None}
use Rattle.run_data.specs.declared.job.Job.{Job}
use Rattle.run_data.specs.declared.job.JobKind.{JobKind}
use Rattle.run_data.specs.declared.job.JobKind.TheVariants as kinds
use Rattle.node_model.specs.Jobs.{running_job}
use Rattle.node_model.specs.Slots.{RunningJob, free_slot}
use Rattle.drop_phases.specs.declared.phase.Phase.TheVariants as phases
use Rattle.drop_phases.specs.declared.phase.Token.TheVariants as tokens
use Rattle.drop_phases.specs.Worker.{Worker}
use Rattle.node_tasks.specs.Places.{PlaceView}
use Rattle.node_tasks.specs.Workers.{new_work_of, work_of}
use Rattle.node_tasks.specs.declared.task.Task.{Task}
use Rattle.node_tasks.specs.declared.task.Task.TheVariants as tasks
use Rattle.node_tasks.specs.Tasks.{work_now}
use Rattle.running_jobs.specs.Running.{Jobs}

-- another of the repositories
abbrev pub IsOtherPeer : PlaceView → ℕ → Type 0
IsOtherPeer p peer = (peer < length p.ids) × ((p.number == peer) ≡ false)

-- any job with another of the repositories; and without a peer a drop of the repository's own copy, or a get from any
abbrev pub MayBegin : PlaceView → JobKind → Option ℕ → Type 0
MayBegin p kind (Some peer) = IsOtherPeer p peer
MayBegin p kinds.Drop None = Unit {0}
MayBegin p kinds.Get None = Unit {0}
MayBegin p kind None = ⊥

-- how it stands among the slots
abbrev pub running_now : Task → RunningJob
running_now t = running_job (work_now t)

abbrev pub next_slot : Jobs → ℕ
next_slot jobs = free_slot (map running_now jobs.running)

-- a drop that begins
abbrev pub new_worker : ℕ → ℕ → Job → Worker
new_worker number slot what = record { number = number; slot = slot; job = what; version = 3; heard = []; word = None; phase = phases.Fresh; token = tokens.Nothing }

-- the job is this one as it begins, on a key with these paths
abbrev pub IsNewTask : ℕ → ℕ → Job → List (List ℕ) → Task → Type 0
IsNewTask number slot what paths (tasks.Drops j) = (j ≡ record { worker = new_worker number slot what; paths = paths; known = None; causes = [] }) × (what.kind ≡ kinds.Drop)
IsNewTask number slot what paths (tasks.Transfers w) = (work_of w ≡ new_work_of number slot what) × (what.kind ≢ kinds.Drop) × (w.paths ≡ paths)

abbrev pub with_task : Jobs → Task → Jobs
with_task jobs t = record jobs { running = t ∷ jobs.running; begun = jobs.begun + 1 }

-- one more job: the next number, in the least free slot
pub record Begins (was : Jobs) (what : Job) (paths : List (List ℕ)) (now : Jobs) : Type 0 where
  pub task : Task
  pub is_new : IsNewTask (was.begun + 1) (next_slot was) what paths task
  pub jobs : now ≡ with_task was task
