-- What a step of a drop leaves, whatever it has read.
use Rattle.std.proofs.Common.{◌≡◌, ℕ, Option, Some, None, Result, Ok, Err, false}
use Rattle.std.specs.Prelude.{IfOk}
use Rattle.annex_base.specs.declared.memory.NoMemory.{NoMemory}
use Rattle.drop_proof.specs.declared.rule.Side.{Side}
use Rattle.drop_proof.specs.declared.rule.Side.TheVariants.{Local, Remote}
use Rattle.object_store.specs.Stores.{Contents}
use Rattle.content_lock.specs.Rows.{AreAfter, Rows}
use Rattle.drop_worker.specs.Apart.{GoesApartSo, IsApart}
use Rattle.drop_worker.specs.Begun.{CanStand, HasBegun, HasGone}
use Rattle.drop_phases.specs.declared.phase.Phase.{Phase}
use Rattle.drop_phases.specs.declared.phase.Phase.TheVariants as phases
use Rattle.drop_phases.specs.declared.turn.Input.{Input}
use Rattle.drop_phases.specs.declared.turn.Output.{Output}
use Rattle.drop_worker.specs.Doing.{Grows, contents_after}
use Rattle.drop_worker.specs.Feeding.{KeepsAnswer, KeepsWord}
use Rattle.drop_worker.specs.Sides.{FitsSide, HasTarget, HearsOwn, side_in}
use Rattle.drop_worker.specs.Worker.{Worker}
use Rattle.node_drops.specs.Doings.{Steps}
use Rattle.node_model.specs.Clocks.{ClockSet}
use Rattle.node_drops.specs.Places.{PlaceView}
use Rattle.node_drops.specs.Reads.{KnownLogs, reading_of}
use Rattle.node_drops.specs.Drops.{place_reading}

-- where a drop may stand depends on its repository and on how many there are, whatever it has read
stand_as : (p : PlaceView) (clock : ClockSet) (known : KnownLogs) (phase : Phase) → CanStand (place_reading p) phase → CanStand (reading_of p clock known) phase
stand_as p clock known phases.Fresh h = h
stand_as p clock known phases.Next h = h
stand_as p clock known (phases.Opens peer) h = h
stand_as p clock known (phases.Greets peer) h = h
stand_as p clock known (phases.AsksLock peer since) h = h
stand_as p clock known (phases.AsksLook peer) h = h
stand_as p clock known phases.AsksTime h = h
stand_as p clock known phases.Orders h = h
stand_as p clock known phases.Removed h = h
stand_as p clock known phases.Denied h = h
stand_as p clock known (phases.Late time) h = h
stand_as p clock known (phases.Ends why) h = h

begun_as : (p : PlaceView) (clock : ClockSet) (known : KnownLogs) (phase : Phase) → HasBegun (reading_of p clock known) phase → HasBegun (place_reading p) phase
begun_as p clock known phases.Fresh h = h
begun_as p clock known phases.Next h = h
begun_as p clock known (phases.Opens peer) h = h
begun_as p clock known (phases.Greets peer) h = h
begun_as p clock known (phases.AsksLock peer since) h = h
begun_as p clock known (phases.AsksLook peer) h = h
begun_as p clock known phases.AsksTime h = h
begun_as p clock known phases.Orders h = h
begun_as p clock known phases.Removed h = h
begun_as p clock known phases.Denied h = h
begun_as p clock known (phases.Late time) h = h
begun_as p clock known (phases.Ends why) h = h

gone_as : (p : PlaceView) (clock : ClockSet) (known : KnownLogs) (w w' : Worker) (out : Output) → HasGone (reading_of p clock known) w w' out → HasGone (place_reading p) w w' out
gone_as p clock known w w' out h = record { goes_on = λ going. begun_as p clock known w'.phase (h.goes_on going); onward = h.onward; ended = h.ended; last = h.last; slot = h.slot }

-- so does what a drop has heard of its own repository, and whether its target is another
pub target_as : (p : PlaceView) (clock : ClockSet) (known : KnownLogs) (side : Side) (peer : Option ℕ) → HasTarget side peer (place_reading p) → HasTarget side peer (reading_of p clock known)
target_as p clock known Local peer h = tt
target_as p clock known Remote None h = h
target_as p clock known Remote (Some target) h = h

pub own_as : (p : PlaceView) (clock : ClockSet) (known : KnownLogs) (side : Side) (w : Worker) → HearsOwn side (place_reading p) w → HearsOwn side (reading_of p clock known) w
own_as p clock known Local w h = tt
own_as p clock known Remote w h = h

own_by : (p : PlaceView) (clock : ClockSet) (known : KnownLogs) (side : Side) (w : Worker) → HearsOwn side (reading_of p clock known) w → HearsOwn side (place_reading p) w
own_by p clock known Local w h = tt
own_by p clock known Remote w h = h

pub steps_so : (p : PlaceView) (clock : ClockSet) (known : KnownLogs) (contents contents' : Option Contents) (input : Input) (rows rows' : Rows) (w w' : Worker) (r : Result Output NoMemory) → IfOk r (λ out. KeepsWord input.taken input.word w w')
    → IfOk r (λ out. KeepsAnswer input.taken input.word w w') → Grows w.heard w'.heard → IfOk r (λ out. AreAfter out.kind rows rows') → IfOk r (λ out. contents' ≡ contents_after contents out.kind)
    → IfOk r (λ out. out.ended ≡ false → FitsSide (side_in w) w'.phase w'.token) → IfOk r (λ out. CanStand (reading_of p clock known) w.phase → HasGone (reading_of p clock known) w w' out)
    → IfOk r (λ out. out.ended ≡ false → HearsOwn (side_in w) (reading_of p clock known) w') → IfOk r (λ out. IsApart (side_in w) w.job.peer w → GoesApartSo (side_in w) w.job.peer p.number w w' out) → (w'.number ≡ w.number) × (w'.job ≡ w.job) → IfOk r (Steps p contents contents' input rows rows' w w')
steps_so p clock known contents contents' input rows rows' w w' (Ok out) word answer heard after stored fits gone own apart same = record {
  word = word;
  answer = answer;
  heard = heard;
  after = after;
  stored = stored;
  fits = fits;
  gone = λ h. gone_as p clock known w w' out (gone (stand_as p clock known w.phase h));
  own = λ going. own_by p clock known (side_in w) w' (own going);
  apart = apart;
  number = same.0;
  job = same.1;
}
steps_so p clock known contents contents' input rows rows' w w' (Err e) word answer heard after stored fits gone own apart same = tt
