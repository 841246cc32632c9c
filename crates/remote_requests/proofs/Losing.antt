-- A remote drop whose connection is closed.
use Rattle.std.proofs.Common.{◌≡◌, ℕ, Bool, true, false, ◌∷◌, refl, ap, ◌∙◌}
use Rattle.std.specs.Prelude.{◌==◌, if◌then◌else◌}
use Rattle.run_data.specs.declared.job.Cause.TheVariants as causes
use Rattle.run_data.specs.declared.job.DropRefusal.TheVariants as refusals
use Rattle.run_data.specs.declared.job.Outcome.TheVariants.{Refused}
use Rattle.node_model.specs.Jobs as Jobs
use Rattle.node_model.specs.Jobs.{Drops, Work, closed_part, is_ordered, or_own, target_of, to_phase}
use Rattle.drop_phases.specs.declared.phase.Ending.TheVariants as endings
use Rattle.drop_phases.specs.declared.phase.Heard.TheVariants as heards
use Rattle.drop_phases.specs.declared.phase.Phase.{Phase}
use Rattle.drop_phases.specs.declared.phase.Phase.TheVariants as phases
use Rattle.drop_phases.specs.Worker.{Worker}
use Rattle.drop_phases.specs.Working.{Rest, phase_as, work_of}
use Rattle.remote_requests.specs.Remote.{IsRemote, is_ordering, without_peer}

ordering : (ph : Phase) → is_ordered (phase_as ph) ≡ is_ordering ph
ordering phases.Fresh = refl
ordering phases.Next = refl
ordering (phases.Opens peer) = refl
ordering (phases.Greets peer) = refl
ordering (phases.AsksLock peer since) = refl
ordering (phases.AsksLook peer) = refl
ordering phases.AsksTime = refl
ordering phases.Orders = refl
ordering phases.Removed = refl
ordering phases.Denied = refl
ordering (phases.Late time) = refl
ordering (phases.Ends why) = refl

pub target_is : (rest : Rest) (w : Worker) (target r : ℕ) → IsRemote target w → target_of r (work_of rest w) ≡ target
target_is rest w target r remote = (λ i. or_own r (remote.side i) (remote.peer i))

pub closed_remote : (rest : Rest) (w : Worker) (target r peer : ℕ) → IsRemote target w → closed_part r (work_of rest w) peer Drops ≡ work_of rest (without_peer w target peer)
closed_remote rest w target r peer remote =
    ap (λ (t : ℕ). closing (t == peer)) (target_is rest w target r remote) ∙ (λ i. lost_so (ordering w.phase i) (target == peer)) ∙ go (target == peer)
  where
    lost_so : Bool → Bool → Work
    lost_so ordered b = if b then to_phase (work_of rest w) (Jobs.Ends (Refused (refusals.Lost ordered))) else Jobs.hears (work_of rest w) peer (Jobs.Lacks causes.Closed)

    closing : Bool → Work
    closing b = lost_so (is_ordered (phase_as w.phase)) b

    go : (b : Bool) → lost_so (is_ordering w.phase) b ≡ work_of rest (if b then record w { phase = phases.Ends (endings.Lost (is_ordering w.phase)) } else record w { heard = (peer, heards.Lacks causes.Closed) ∷ w.heard; phase = phases.Next })
    go true = refl
    go false = refl
