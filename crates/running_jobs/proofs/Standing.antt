-- Each running job stands well as it steps.
use Rattle.std.proofs.Common.{◌≡◌, ℕ, false, [], length, map, Option, Some, None, refl, ap, true≢false}
use Rattle.node_model.specs.After.{has_read}
use Rattle.node_model.specs.Jobs as Jobs
use Rattle.node_model.specs.Jobs.{Drops}
use Rattle.node_model.specs.JobStep.{turn_of}
use Rattle.node_model.specs.Look.{Look}
use Rattle.node_model.specs.SetUp.{SetUp}
use Rattle.node_model.specs.State.{State}
use Rattle.job_frames.specs.Standing.{StandsWell}
use Rattle.drop_phases.specs.declared.phase.Heard.{Heard}
use Rattle.drop_phases.specs.declared.phase.Phase.{Phase}
use Rattle.drop_phases.specs.declared.phase.Phase.TheVariants as phases
use Rattle.drop_phases.specs.Working.{heard_as, phase_as}
use Rattle.node_tasks.specs.Places.{PlaceView}
use Rattle.get_phases.specs.declared.getting.Phase.{Phase as GetPhase}
use Rattle.get_phases.specs.declared.getting.Phase.TheVariants as getting
use Rattle.get_phases.specs.Gets as gets
use Rattle.put_steps.specs.declared.phase.Phase.{Phase as PutPhase}
use Rattle.put_steps.specs.declared.phase.Phase.TheVariants as putting
use Rattle.put_steps.specs.Puts as puts
use Rattle.transfer_turns.specs.Turns.{Sight}
use Rattle.node_tasks.specs.Worker.{Worker}
use Rattle.node_tasks.specs.Worker.TheVariants.{Gets, Puts}
use Rattle.node_tasks.specs.Workers.{CanStep, work_of}
use Rattle.node_tasks.specs.Ready.{sight_of}
use Rattle.node_tasks.specs.declared.task.Task.{Task}
use Rattle.node_tasks.specs.declared.task.Task.TheVariants as tasks
use Rattle.node_tasks.specs.Tasks.{IsTask, work_now}
use Rattle.running_jobs.specs.Acting.{HasLockRoom}
use Rattle.running_jobs.proofs.Transfers.{as_job}

-- ---- a drop

unread_drop : (phase : Phase) → has_read Drops (phase_as phase) ≡ false → phase ≡ phases.Fresh
unread_drop phases.Fresh unread = refl
unread_drop phase unread = absurd (true≢false unread)

-- ---- a get

never_puts : (phase : GetPhase) → gets.part_of phase ≡ Jobs.Puts → ⊥
never_puts getting.Fresh is = cc
never_puts (getting.Next fill) is = cc
never_puts (getting.Opens peer fill) is = cc
never_puts (getting.Greets peer fill) is = cc
never_puts (getting.Data peer wanting) is = cc
never_puts (getting.Bytes peer start taking) is = cc
never_puts (getting.Word peer start taken) is = cc
never_puts (getting.Ends why) is = cc
never_puts getting.Done is = cc

untimed_get : (phase : GetPhase) → gets.phase_of phase ≡ Jobs.AsksTime → ⊥
untimed_get getting.Fresh is = cc
untimed_get (getting.Next fill) is = cc
untimed_get (getting.Opens peer fill) is = cc
untimed_get (getting.Greets peer fill) is = cc
untimed_get (getting.Data peer wanting) is = cc
untimed_get (getting.Bytes peer start taking) is = cc
untimed_get (getting.Word peer start taken) is = cc
untimed_get (getting.Ends why) is = cc
untimed_get getting.Done is = cc

-- ---- a copy

untimed_put : (phase : PutPhase) → puts.phase_of phase ≡ Jobs.AsksTime → ⊥
untimed_put putting.Fresh is = cc
untimed_put (putting.Opens peer) is = cc
untimed_put (putting.Greets peer) is = cc
untimed_put (putting.Offer peer) is = cc
untimed_put (putting.Bytes s) is = cc
untimed_put (putting.Word peer start) is = cc
untimed_put (putting.Answer peer start) is = cc
untimed_put (putting.Ends why) is = cc
untimed_put putting.Done is = cc

peer_there : (x : Sight) (o : Option ℕ) → puts.HasPeer x o → (peer : ℕ) × (o ≡ Some peer)
peer_there x None has = absurd has
peer_there x (Some peer) has = (peer, refl)

-- ---- any of them

never_drops : Jobs.Drops ≡ Jobs.Puts → ⊥
never_drops is = cc

transfer_stands : (p : PlaceView) (s : SetUp) (st : State) (k : Look) (v : Worker) → CanStep (sight_of p.number (length p.ids) []) (as_job v) → StandsWell (turn_of s st k (work_of (as_job v)))
transfer_stands p s st k (Gets w) can = record {
  unheard = λ unread. refl;
  peer = λ sends. absurd (never_puts w.phase sends);
  locks = λ asks. absurd (untimed_get w.phase asks);
}
transfer_stands p s st k (Puts w) can = record {
  unheard = λ unread. refl;
  peer = λ sends. peer_there (sight_of p.number (length p.ids) []) w.job.peer can.2;
  locks = λ asks. absurd (untimed_put w.phase asks);
}

pub stands : (p : PlaceView) (s : SetUp) (st : State) (k : Look) (t : Task) → IsTask p t → HasLockRoom s st k t → StandsWell (turn_of s st k (work_now t))
stands p s st k (tasks.Drops j) is room = record {
  unheard = λ unread. ap (map (λ (x : ℕ × Heard). (x.0, heard_as x.1))) (is.unheard (unread_drop j.worker.phase unread));
  peer = λ sends. absurd (never_drops sends);
  locks = room;
}
stands p s st k (tasks.Transfers w) is room = transfer_stands p s st k w.worker is.can
