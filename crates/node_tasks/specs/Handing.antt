-- A move that goes on with its drop; for private contracts (own).
use Rattle.std.specs.Prelude.{◌≡◌, true, false, [], None}
use Rattle.drop_phases.specs.declared.phase.Phase.TheVariants as phases
use Rattle.drop_phases.specs.declared.phase.Token.TheVariants as tokens
use Rattle.node_drops.specs.Drops.{DropJob, work_now}
use Rattle.node_transfers.specs.declared.job.TransferJob.{TransferJob}
use Rattle.node_transfers.specs.Workers.{is_done, work_of}
use Rattle.node_tasks.specs.declared.task.Task.{Task}
use Rattle.node_tasks.specs.declared.task.Task.TheVariants as tasks

-- the transfer is done, and this drop, which is to begin, is the job's from here on
pub record BeginsDrop (w : TransferJob) (j : DropJob) : Type 0 where
  pub done : is_done w ≡ true
  pub work : work_now j ≡ work_of w
  pub paths : j.paths ≡ w.paths
  pub known : j.known ≡ None
  pub heard : j.worker.heard ≡ []
  pub word : j.worker.word ≡ None
  pub phase : j.worker.phase ≡ phases.Fresh
  pub token : j.worker.token ≡ tokens.Nothing

-- what a transfer is from here on: its drop where it is done, and else itself
abbrev pub HandsOn : TransferJob → Task → Type 0
HandsOn w (tasks.Drops j) = BeginsDrop w j
HandsOn w (tasks.Transfers w') = (is_done w ≡ false) × (w' ≡ w)
