-- A transfer by its worker.
use Rattle.std.proofs.Common.{◌≡◌, false, [], refl}
use Rattle.get_phases.specs.declared.getting.Phase.{Phase as GetPhase}
use Rattle.get_phases.specs.declared.getting.Phase.TheVariants as getting
use Rattle.get_phases.specs.Gets as gets
use Rattle.put_steps.specs.declared.phase.Phase.{Phase as PutPhase}
use Rattle.put_steps.specs.declared.phase.Phase.TheVariants as putting
use Rattle.put_steps.specs.Puts as puts
use Rattle.node_model.specs.After.{has_read}
use Rattle.node_tasks.specs.TransferJob.{TransferJob}
use Rattle.node_tasks.specs.Worker.{Worker}
use Rattle.node_tasks.specs.Worker.TheVariants.{Gets, Puts}
use Rattle.node_tasks.specs.Workers.{work_of}

-- a job with this worker, whatever its paths
abbrev pub as_job : Worker → TransferJob
as_job v = record { worker = v; paths = [] }

get_unread : (phase : GetPhase) → has_read (gets.part_of phase) (gets.phase_of phase) ≡ false
get_unread getting.Fresh = refl
get_unread (getting.Next fill) = refl
get_unread (getting.Opens peer fill) = refl
get_unread (getting.Greets peer fill) = refl
get_unread (getting.Data peer wanting) = refl
get_unread (getting.Bytes peer start taking) = refl
get_unread (getting.Word peer start taken) = refl
get_unread (getting.Ends why) = refl
get_unread getting.Done = refl

put_unread : (phase : PutPhase) → has_read (puts.part_of phase) (puts.phase_of phase) ≡ false
put_unread putting.Fresh = refl
put_unread (putting.Opens peer) = refl
put_unread (putting.Greets peer) = refl
put_unread (putting.Offer peer) = refl
put_unread (putting.Bytes s) = refl
put_unread (putting.Word peer start) = refl
put_unread (putting.Answer peer start) = refl
put_unread (putting.Ends why) = refl
put_unread putting.Done = refl

-- it has read nothing of the logs
pub transfer_unread : (v : Worker) → has_read (work_of (as_job v)).part (work_of (as_job v)).phase ≡ false
transfer_unread (Gets w) = get_unread w.phase
transfer_unread (Puts w) = put_unread w.phase
