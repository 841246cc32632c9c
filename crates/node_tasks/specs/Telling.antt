-- What a job is told in its step, and whether it has one (own).
use Rattle.std.specs.Prelude.{◌≡◌, ℕ, List, length, Option, Some, None}
use Rattle.run_data.specs.declared.entry.FrameView.{FrameView}
use Rattle.object_store.specs.Stores.{Contents, Parts}
use Rattle.link_ring.specs.Ends.{EndView}
use Rattle.content_lock.specs.Rows.{Rows}
use Rattle.node_model.specs.Clocks.{ClockSet}
use Rattle.node_model.specs.JobStep.{turn_of}
use Rattle.node_model.specs.Look.{Look}
use Rattle.node_model.specs.SetUp.{SetUp}
use Rattle.node_model.specs.State.{State}
use Rattle.node_model.specs.Turns.{slot_step}
use Rattle.drop_phases.specs.Feeding as drops
use Rattle.drop_phases.specs.Feeding.{FeedsFrameAt, ToldAt}
use Rattle.drop_phases.specs.Leaving.{stands_on}
use Rattle.drop_phases.specs.Working.{sight}
use Rattle.node_ends.specs.Ends.{end_at}
use Rattle.node_drops.specs.Drops.{place_reading}
use Rattle.node_drops.specs.Feeds.{IsFedAt}
use Rattle.node_drops.specs.Places.{PlaceView}
use Rattle.node_drops.specs.Waiting.{taken_by}
use Rattle.transfer_turns.specs.Turns.{Comes, awaited}
use Rattle.node_transfers.specs.States.{FindsAt, HaveState}
use Rattle.node_transfers.specs.Workers.{SeesPart, work_of}
use Rattle.node_transfers.specs.Ready.{IsTold, sight_of}
use Rattle.node_tasks.specs.declared.readiness.Told.{Told}
use Rattle.node_tasks.specs.declared.readiness.Told.TheVariants as tolds
use Rattle.node_tasks.specs.declared.task.Task.{Task}
use Rattle.node_tasks.specs.declared.task.Task.TheVariants as tasks
use Rattle.node_tasks.specs.Tasks.{SeesTask, slot_of, work_now}

-- the peer from whose end a frame is taken
abbrev pub takes_in : Told → Option ℕ
takes_in (tolds.Feed f) = f.takes
takes_in (tolds.Arrival x) = x.takes

-- a drop is told what came where it awaits a frame; a transfer likewise
abbrev pub IsToldTo : List EndView → Task → Told → Type 0
IsToldTo links (tasks.Drops j) (tolds.Feed f) = ToldAt (stands_on j.worker) f.taken × IsFedAt links j f
IsToldTo links (tasks.Transfers w) (tolds.Arrival x) = IsTold links (work_of w).slot (awaited (work_of w)) (Some x)
IsToldTo links t x = ⊥

-- the frame that its step takes
abbrev pub frame_in : List EndView → Task → Told → Option FrameView
frame_in links t x = taken_by links (slot_of t) (takes_in x)

-- what it is told comes at the ends of this state, at this look
abbrev pub ComesTo : PlaceView → List EndView → ℕ → SetUp → State → Look → Task → Told → Type 0
ComesTo p links time s st k (tasks.Drops j) (tolds.Feed f) =
    drops.FindsAt (turn_of s st k (work_now (tasks.Drops j))) (stands_on j.worker) (frame_in links (tasks.Drops j) (tolds.Feed f))
    × FeedsFrameAt (sight (place_reading p) (end_at links) time 0) j.worker.slot (stands_on j.worker) (frame_in links (tasks.Drops j) (tolds.Feed f)) f.taken
ComesTo p links time s st k (tasks.Transfers w) (tolds.Arrival x) =
    FindsAt (turn_of s st k (work_of w)) (awaited (work_of w)) (frame_in links (tasks.Transfers w) (tolds.Arrival x))
    × Comes (sight_of p.number (length p.ids) links) (work_of w).slot (awaited (work_of w)) (frame_in links (tasks.Transfers w) (tolds.Arrival x)) x.incoming
ComesTo p links time s st k t x = ⊥

-- it has a step, in which it is told this
abbrev pub IsReady : PlaceView → ClockSet → List EndView → ℕ → Task → Told → Type 0
IsReady p clock links time t x = (rows : Rows) (c : Contents) (s : SetUp) (st : State) (k : Look) → SeesTask p clock links time s st k t → HaveState rows c s st → ComesTo p links time s st k t x

-- it has none
abbrev pub IsIdle : PlaceView → ClockSet → List EndView → ℕ → Task → Type 0
IsIdle p clock links time t = (rows : Rows) (c : Contents) (s : SetUp) (st : State) (k : Look) → SeesTask p clock links time s st k t → HaveState rows c s st → slot_step s st k (Some (work_now t)) ≡ None

abbrev pub Answers : PlaceView → ClockSet → List EndView → ℕ → Task → Option Told → Type 0
Answers p clock links time t None = IsIdle p clock links time t
Answers p clock links time t (Some x) = IsReady p clock links time t x

-- how a look sees the part that a transfer's step asks for
abbrev pub SeesPartOf : Option Parts → Task → Told → Look → Type 0
SeesPartOf known (tasks.Transfers w) (tolds.Arrival x) k = SeesPart known w x.incoming k.part k.right
SeesPartOf known t x k = Unit {0}
