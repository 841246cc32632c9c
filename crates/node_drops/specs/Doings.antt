-- What the step of a job does and leaves; for private contracts (own).
use Rattle.std.specs.Prelude.{◌≡◌, ℕ, ◌+◌, false, List, [], Option, Some}
use Rattle.std.specs.Option.{ForSome, option_map}
use Rattle.annex_base.specs.Settings.{Settings}
use Rattle.run_data.specs.declared.entry.FrameView.{FrameView}
use Rattle.link_ring.specs.Ends.{EndView}
use Rattle.node_ends.specs.Ends.{end_at}
use Rattle.object_store.specs.Stores.{Contents}
use Rattle.node_model.specs.Around.{around}
use Rattle.node_model.specs.Clocks.{ClockSet}
use Rattle.node_model.specs.Evidence as drops
use Rattle.node_model.specs.Evidence.{standing_by}
use Rattle.node_model.specs.Jobs.{Work, work_after}
use Rattle.node_model.specs.JobStep.{turn_of}
use Rattle.node_model.specs.Look.{Look, as_told, entry_of, failed_in}
use Rattle.node_model.specs.SetUp.{SetUp}
use Rattle.node_model.specs.State.{State}
use Rattle.node_model.specs.Turns.{slot_step}
use Rattle.content_lock.specs.Rows.{AreAfter, Rows}
use Rattle.drop_worker.specs.Apart.{GoesApartSo, IsApart}
use Rattle.drop_worker.specs.Begun.{CanStand, HasGone}
use Rattle.drop_phases.specs.declared.turn.Input.{Input}
use Rattle.drop_phases.specs.declared.turn.Output.{Output}
use Rattle.drop_worker.specs.Doing.{Grows, contents_after}
use Rattle.drop_worker.specs.Feeding.{FeedsFrameAt, FindsAt, KeepsAnswer, KeepsWord}
use Rattle.drop_worker.specs.Leaving.{stands_on}
use Rattle.drop_worker.specs.Sides.{FitsSide, HearsOwn, side_in}
use Rattle.drop_worker.specs.States.{HaveState, Sees, StepsSo}
use Rattle.drop_worker.specs.Worker.{Worker}
use Rattle.drop_worker.specs.Working.{frames_of, sight, words_of}
use Rattle.node_drops.specs.Feeds.{SeesJob}
use Rattle.node_drops.specs.Places.{PlaceView}
use Rattle.node_drops.specs.Reads.{KnownLogs, reading_of}
use Rattle.node_drops.specs.Drops.{DropJob, HasRead, place_reading, work_now}

-- the step of a worker that knows this, as the worker's own contract says it
abbrev pub Does : PlaceView → ClockSet → List EndView → KnownLogs → Input → Option Contents → Rows → Worker → Worker → Output → Type 0
Does p clock links known input contents rows w w' out =
    ForSome contents (λ c. (s : SetUp) (st : State) (k : Look) (v : Work) (f : Option FrameView)
    → Sees (sight (reading_of p clock known) (end_at links) input.time input.number) rows c w input.taken (failed_in out.kind) s st k v f
    → StepsSo (sight (reading_of p clock known) (end_at links) input.time input.number) w w' out s st k v f)

-- what it leaves of rows and contents, and where it leaves the worker
pub record Steps (p : PlaceView) (contents contents' : Option Contents) (input : Input) (rows rows' : Rows) (w w' : Worker) (out : Output) : Type 0 where
  pub word : KeepsWord input.taken input.word w w'
  pub answer : KeepsAnswer input.taken input.word w w'
  pub heard : Grows w.heard w'.heard
  pub after : AreAfter out.kind rows rows'
  pub stored : contents' ≡ contents_after contents out.kind
  pub fits : out.ended ≡ false → FitsSide (side_in w) w'.phase w'.token
  pub gone : CanStand (place_reading p) w.phase → HasGone (place_reading p) w w' out
  pub own : out.ended ≡ false → HearsOwn (side_in w) (place_reading p) w'
  pub apart : IsApart (side_in w) w.job.peer w → GoesApartSo (side_in w) w.job.peer p.number w w' out
  pub number : w'.number ≡ w.number
  pub job : w'.job ≡ w.job

-- what the repository is as the job acts: it is told of this frame, or of none
pub record SeesAct (p : PlaceView) (clock : ClockSet) (links : List EndView) (settings : Settings) (input : Input) (rows : Rows) (c : Contents) (j : DropJob) (out : Output) (s : SetUp) (st : State) (k : Look) (f : Option FrameView) : Type 0 where
  pub job : SeesJob p clock links j input.time s st k
  pub keeps : HaveState rows c st
  pub logs : st.logs ≡ settings
  pub nameless : (key : List ℕ) → standing_by settings key [] ≡ drops.Asked
  pub number : input.number ≡ st.made + 1
  pub fails : k.fails ≡ failed_in out.kind
  pub words : words_of j.worker ≡ k.words
  pub finds : FindsAt (turn_of s st k (work_now j)) (stands_on j.worker) f
  pub fed : FeedsFrameAt (sight (place_reading p) (end_at links) input.time 0) j.worker.slot (stands_on j.worker) f input.taken

-- its step is that of its slot, and it goes on as its work does
pub record ActsSo (links : List EndView) (j j' : DropJob) (out : Output) (s : SetUp) (st : State) (k : Look) (f : Option FrameView) : Type 0 where
  pub made : option_map as_told (slot_step s st k (Some (work_now j))) ≡ Some (record { kind = out.kind; taken = f; sent = frames_of (end_at links) j.worker.slot out.sends.items; lines = []; calls = [] })
  pub next : out.ended ≡ false → work_now j' ≡ work_after (around s st) s.number
      (entry_of s.number k (record { kind = out.kind; taken = f; sent = frames_of (end_at links) j.worker.slot out.sends.items; lines = []; calls = [] })) (work_now j)

-- of a state that follows, what the job has read is what it had read, or the logs at its first step
pub record ReadsOn (s : SetUp) (st st' : State) (j : DropJob) : Type 0 where
  pub logs : st'.logs ≡ st.logs
  pub read : st'.read j.worker.number ≡ st.read j.worker.number

abbrev pub Acts : PlaceView → ClockSet → List EndView → Settings → Input → Option Contents → Rows → DropJob → DropJob → Output → Type 0
Acts p clock links settings input contents rows j j' out =
    ForSome contents (λ c. (s : SetUp) (st : State) (k : Look) (f : Option FrameView) → SeesAct p clock links settings input rows c j out s st k f
    → ActsSo links j j' out s st k f × (out.ended ≡ false → (st' : State) → ReadsOn s st st' j → HasRead s st' j'.worker j'.known))
