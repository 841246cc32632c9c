-- What a copy is: the job's work (own).
use Rattle.std.specs.Prelude.{◌≡◌, ◌==◌, ℕ, Bool, true, false, [], Option, Some, None}
use Rattle.run_data.specs.declared.job.Outcome.{Outcome}
use Rattle.run_data.specs.declared.job.Outcome.TheVariants.{Copied, TransferRefused}
use Rattle.run_data.specs.declared.job.TransferRefusal.TheVariants as failures
use Rattle.node_model.specs.Jobs
use Rattle.node_model.specs.Jobs.{Part, Work, Drops, Puts}
use Rattle.transfer_turns.specs.Turns.{Sight}
use Rattle.put_steps.specs.declared.phase.Ending.{Ending}
use Rattle.put_steps.specs.declared.phase.Ending.TheVariants as endings
use Rattle.put_steps.specs.declared.phase.Phase.{Phase}
use Rattle.put_steps.specs.declared.phase.Phase.TheVariants as phases
use Rattle.put_steps.specs.declared.putting.Putting.{Putting}

abbrev pub outcome_of : Ending → Outcome
outcome_of (endings.Copied start) = Copied start
outcome_of endings.Busy = TransferRefused failures.Busy
outcome_of endings.Closed = TransferRefused failures.Closed
outcome_of endings.Rejected = TransferRefused failures.Rejected
outcome_of endings.StoreFault = TransferRefused failures.StoreFault

abbrev pub phase_of : Phase → Jobs.Phase
phase_of phases.Fresh = Jobs.Fresh
phase_of (phases.Opens peer) = Jobs.Opens peer
phase_of (phases.Greets peer) = Jobs.Greets peer
phase_of (phases.Offer peer) = Jobs.PutsOffer peer
phase_of (phases.Bytes s) = Jobs.PutsBytes s.peer s.start s.at s.left
phase_of (phases.Word peer start) = Jobs.PutsWord peer start
phase_of (phases.Answer peer start) = Jobs.PutsAnswer peer start
phase_of (phases.Ends why) = Jobs.Ends (outcome_of why)
phase_of phases.Done = Jobs.Fresh

abbrev pub is_done : Phase → Bool
is_done phases.Done = true
is_done phase = false

abbrev pub part_of : Phase → Part
part_of phases.Done = Drops
part_of phase = Puts

-- the work that it is; where its transfer is done and its drop is to begin, that of the drop
abbrev pub work_of : Putting → Work
work_of w =
    record {
      number = w.number;
      slot = w.slot;
      what = w.job;
      part = part_of w.phase;
      phase = phase_of w.phase;
      fills = false;
      version = w.version;
      heard = [];
      causes = [];
    }

-- it goes to a peer, which is another repository
abbrev pub HasPeer : Sight → Option ℕ → Type 0
HasPeer x None = ⊥
HasPeer x (Some peer) = (x.repo == peer) ≡ false
