-- A step on either way of the content is one of the worker.
use Rattle.std.proofs.Common.{◌≡◌, false, Option, Some, Result, Ok, Err, IfOk, refl, sym, ap, subst, ◌∙◌}
use Rattle.std.specs.Option.{ForSome}
use Rattle.run_data.specs.declared.entry.FrameView.{FrameView}
use Rattle.run_data.specs.declared.job.Job.{Job}
use Rattle.object_store.specs.Stores.{AreSmallParts}
use Rattle.node_model.specs.Jobs.{first_part}
use Rattle.node_model.specs.Look.{Effect, Look, failed_in}
use Rattle.node_model.specs.SetUp.{SetUp}
use Rattle.node_model.specs.State.{State}
use Rattle.node_model.specs.Turns.{slot_step}
use Rattle.content_lock.specs.CallsMade.{MakesCalls}
use Rattle.content_lock.specs.Rows.{Rows}
use Rattle.session_state.specs.declared.incoming.Incoming.{Incoming}
use Rattle.transfer_turns.specs.Steps.{Seen}
use Rattle.transfer_turns.specs.Turns.{Sight}
use Rattle.transfer_turns.proofs.Pieces.{pieces_none}
use Rattle.get_phases.specs.declared.getting.Getting.{Getting}
use Rattle.get_phases.specs.Getting as gets
use Rattle.put_steps.specs.declared.putting.Putting.{Putting}
use Rattle.put_steps.specs.Putting as puts
use Rattle.put_steps.specs.Puts as copies
use Rattle.put_steps.specs.Puts.{HasPeer}
use Rattle.transfer_turns.specs.declared.parcels.Output.{Output}
use Rattle.transfer_worker.specs.declared.worker.Worker.{Worker}
use Rattle.transfer_worker.specs.declared.worker.Worker.TheVariants.{Gets, Puts}
use Rattle.transfer_worker.specs.States.{Sees, StepsSo}
use Rattle.transfer_worker.specs.Workers.{CanStep, Keeps, SeesPart, Steps, work_of}
use Rattle.transfer_worker.proofs.Meeting.{calls_met, meets}

pub get_steps : {E : Type 0} (x : Sight) (i : Option Incoming) (rows rows' : Rows) (k k' : Seen) (w w' : Getting) (r : Result Output E) → gets.Does x i rows rows' k k' w w' r → Steps x i rows k k' (Gets w) (Gets w') r
get_steps x i rows rows' k k' w w' (Ok out) d = d.0
get_steps x i rows rows' k k' w w' (Err e) d = tt

pub get_keeps : {E : Type 0} (x : Sight) (i : Option Incoming) (rows rows' : Rows) (k k' : Seen) (w w' : Getting) (r : Result Output E) → gets.Does x i rows rows' k k' w w' r → Keeps x i rows rows' k k' (Gets w) (Gets w') r
get_keeps x i rows rows' k k' w w' (Ok out) d =
    record { leaves = d.1.leaves; parts = d.1.parts; has = d.1.has; fed = d.1.fed; small = d.1.small; judged = d.1.judged; pieces = pieces_none k.contents (work_of (Gets w)) out.sends.items d.1.pieces; ended = d.1.ended; apart = d.1.apart; undone = d.1.undone; can = λ undone can. undone }
get_keeps x i rows rows' k k' w w' (Err e) d = (ap Gets d.worker, d.table, d.store)

pub put_steps : {E : Type 0} (x : Sight) (i : Option Incoming) (rows : Rows) (k k' : Seen) (w w' : Putting) (r : Result Output E) → puts.Does x i rows k k' w w' r → Steps x i rows k k' (Puts w) (Puts w') r
put_steps x i rows k k' w w' (Ok out) d = d.0
put_steps x i rows k k' w w' (Err e) d = tt

-- a copy that isn't done can step, since its job stays
still_can : (x : Sight) (w w' : Putting) → w'.job ≡ w.job → copies.is_done w'.phase ≡ false → CanStep x (Puts w) → CanStep x (Puts w')
still_can x w w' same undone can = (ap (λ (what : Job). first_part what.kind) same ∙ can.0, undone, subst (λ (what : Job). HasPeer x what.peer) (sym same) can.2)

pub put_keeps : {E : Type 0} (x : Sight) (i : Option Incoming) (rows : Rows) (k k' : Seen) (w w' : Putting) (r : Result Output E) → puts.Does x i rows k k' w w' r → Keeps x i rows rows k k' (Puts w) (Puts w') r
put_keeps x i rows k k' w w' (Ok out) d =
    record { leaves = d.1.leaves; parts = d.1.parts; has = tt; fed = λ p told was p' told'. tt; small = subst AreSmallParts (sym d.1.parts); judged = d.1.still; pieces = d.1.pieces; ended = d.1.ended; apart = d.1.apart; undone = d.1.undone; can = λ undone can. still_can x w w' d.1.leaves.what undone can }
put_keeps x i rows k k' w w' (Err e) d = (ap Puts d.worker, refl, d.store)

-- ---- in the words of a state

pub step_meets : {E : Type 0} (x : Sight) (i : Option Incoming) (rows rows' : Rows) (k k' : Seen) (w w' : Worker) (r : Result Output E) → Steps x i rows k k' w w' r → Keeps x i rows rows' k k' w w' r
    → IfOk r (λ out. ForSome k.contents (λ c. (s : SetUp) (st : State) (look : Look) (f : Option FrameView) → Sees x rows c (work_of w) i (failed_in out.kind) (SeesPart k.parts w i) s st look f → StepsSo x (work_of w) (work_of w') out s st look f))
step_meets x i rows rows' k k' w w' (Ok out) does keeps = λ c told s st look f z. meets x rows k k' (work_of w) (work_of w') i (SeesPart k.parts w i) out does keeps.leaves.whose c told s st look f z
step_meets x i rows rows' k k' w w' (Err e) does keeps = tt

pub step_calls : {E : Type 0} (x : Sight) (i : Option Incoming) (rows rows' : Rows) (k k' : Seen) (w w' : Worker) (r : Result Output E) → Steps x i rows k k' w w' r → Keeps x i rows rows' k k' w w' r
    → IfOk r (λ out. ForSome k.contents (λ c. (s : SetUp) (st : State) (look : Look) (f : Option FrameView) → Sees x rows c (work_of w) i (failed_in out.kind) (SeesPart k.parts w i) s st look f
    → ForSome (slot_step s st look (Some (work_of w))) (λ (m : Effect). MakesCalls m.calls (failed_in out.kind) k.failing k'.failing)))
step_calls x i rows rows' k k' w w' (Ok out) does keeps = λ c told s st look f z. calls_met x rows k k' (work_of w) (work_of w') i (SeesPart k.parts w i) out does keeps.leaves.whose c told s st look f z
step_calls x i rows rows' k k' w w' (Err e) does keeps = tt
