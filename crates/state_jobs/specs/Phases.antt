-- Where jobs stand, as data, and how that is what the definitions say (own).
use Rattle.std.specs.Prelude.{ℕ, ◌<◌, Some, None}
use Rattle.run_data.specs.declared.job.Outcome.{Outcome}
use Rattle.run_data.specs.declared.job.Outcome.TheVariants.{Got, Copied, Refused, TransferRefused}
use Rattle.run_data.specs.declared.job.DropRefusal.TheVariants as refusals
use Rattle.run_data.specs.declared.job.TransferRefusal.TheVariants as failures
use Rattle.node_model.specs.Jobs as jobs
use Rattle.state_jobs.specs.declared.phase.Part.{Part}
use Rattle.state_jobs.specs.declared.phase.Part.TheVariants as parts
use Rattle.state_jobs.specs.declared.phase.Phase.{Phase}
use Rattle.state_jobs.specs.declared.phase.Phase.TheVariants as phases
use Rattle.state_jobs.specs.declared.phase.Ending.{Ending}
use Rattle.state_jobs.specs.declared.phase.Ending.TheVariants as endings
use Rattle.state_jobs.specs.declared.phase.Heard.{Heard}
use Rattle.state_jobs.specs.declared.phase.Heard.TheVariants as heards

abbrev pub part_of : Part → jobs.Part
part_of parts.Gets = jobs.Gets
part_of parts.Puts = jobs.Puts
part_of parts.Drops = jobs.Drops

abbrev pub ending_of : Ending → Outcome
ending_of endings.Here = Got None None
ending_of (endings.Got source start) = Got (Some source) (Some start)
ending_of (endings.Copied start) = Copied start
ending_of (endings.Lost ordered) = Refused (refusals.Lost ordered)
ending_of (endings.OldProtocol version) = Refused (refusals.OldProtocol version)
ending_of endings.DropFault = Refused refusals.StoreFault
ending_of endings.TransferFault = TransferRefused failures.StoreFault
ending_of endings.Closed = TransferRefused failures.Closed
ending_of endings.Busy = TransferRefused failures.Busy
ending_of endings.Rejected = TransferRefused failures.Rejected

abbrev pub phase_of : Phase → jobs.Phase
phase_of phases.Fresh = jobs.Fresh
phase_of phases.Next = jobs.Next
phase_of (phases.Opens peer) = jobs.Opens peer
phase_of (phases.Greets peer) = jobs.Greets peer
phase_of (phases.GetsData peer start) = jobs.GetsData peer start
phase_of (phases.GetsBytes peer start size left) = jobs.GetsBytes peer start size left
phase_of (phases.GetsWord peer start size) = jobs.GetsWord peer start size
phase_of (phases.PutsOffer peer) = jobs.PutsOffer peer
phase_of (phases.PutsBytes peer start at left) = jobs.PutsBytes peer start at left
phase_of (phases.PutsWord peer start) = jobs.PutsWord peer start
phase_of (phases.PutsAnswer peer start) = jobs.PutsAnswer peer start
phase_of (phases.AsksLock peer since) = jobs.AsksLock peer since
phase_of (phases.AsksLook peer) = jobs.AsksLook peer
phase_of phases.AsksTime = jobs.AsksTime
phase_of phases.Orders = jobs.Orders
phase_of phases.Removed = jobs.Removed
phase_of phases.Denied = jobs.Denied
phase_of (phases.Late time) = jobs.Late time
phase_of (phases.Ends ending) = jobs.Ends (ending_of ending)

abbrev pub heard_of : Heard → jobs.Heard
heard_of (heards.Held since) = jobs.Held since
heard_of heards.Seen = jobs.Seen
heard_of heards.Unseen = jobs.Unseen
heard_of (heards.Lacks cause) = jobs.Lacks cause

-- the place to which it has come in a content is below this
abbrev pub IsBelow : ℕ → Phase → Type 0
IsBelow limit (phases.GetsBytes peer start size left) = size < limit
IsBelow limit (phases.PutsBytes peer start at left) = at < limit
IsBelow limit phase = 0 < limit
