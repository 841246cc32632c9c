-- Which calls of its store the step of a job makes; for private contracts (own).
use Rattle.std.specs.Prelude.{ℕ, List, Option, Some}
use Rattle.std.specs.Option.{ForSome}
use Rattle.annex_base.specs.Settings.{Settings}
use Rattle.annex_base.specs.declared.kinds.Call.{Call}
use Rattle.run_data.specs.declared.entry.FrameView.{FrameView}
use Rattle.link_ring.specs.Ends.{EndView}
use Rattle.node_ends.specs.Ends.{end_at}
use Rattle.object_store.specs.Stores.{Contents}
use Rattle.node_model.specs.Clocks.{ClockSet}
use Rattle.node_model.specs.Jobs.{Work}
use Rattle.node_model.specs.Look.{Look, Effect, failed_in}
use Rattle.node_model.specs.SetUp.{SetUp}
use Rattle.node_model.specs.State.{State}
use Rattle.node_model.specs.Turns.{slot_step}
use Rattle.content_lock.specs.CallsMade.{MakesCalls}
use Rattle.content_lock.specs.Rows.{Rows}
use Rattle.drop_phases.specs.declared.turn.Input.{Input}
use Rattle.drop_phases.specs.declared.turn.Output.{Output}
use Rattle.drop_worker.specs.States.{Sees}
use Rattle.drop_worker.specs.Worker.{Worker}
use Rattle.drop_worker.specs.Working.{sight}
use Rattle.node_drops.specs.Doings.{SeesAct}
use Rattle.node_drops.specs.Places.{PlaceView}
use Rattle.node_drops.specs.Reads.{KnownLogs, reading_of}
use Rattle.node_drops.specs.Drops.{DropJob, work_now}

-- how many calls of each kind are still to fail, where the store tells it
abbrev pub Failing : Type 0
Failing = Option (Call → ℕ)

-- the calls of a worker that knows this, as the worker's own contract says it
abbrev pub WorkerMakes : PlaceView → ClockSet → List EndView → KnownLogs → Input → Option Contents → Rows → Worker → Failing → Failing → Output → Type 0
WorkerMakes p clock links known input contents rows w before after out =
    ForSome contents (λ c. (s : SetUp) (st : State) (k : Look) (v : Work) (f : Option FrameView)
    → Sees (sight (reading_of p clock known) (end_at links) input.time input.number) rows c w input.taken (failed_in out.kind) s st k v f
    → ForSome (slot_step s st k (Some v)) (λ (m : Effect). MakesCalls m.calls (failed_in out.kind) before after))

-- those of a job
abbrev pub JobMakes : PlaceView → ClockSet → List EndView → Settings → Input → Option Contents → Rows → Failing → Failing → DropJob → Output → Type 0
JobMakes p clock links settings input contents rows before after j out =
    ForSome contents (λ c. (s : SetUp) (st : State) (k : Look) (f : Option FrameView) → SeesAct p clock links settings input rows c j out s st k f
    → ForSome (slot_step s st k (Some (work_now j))) (λ (m : Effect). MakesCalls m.calls (failed_in out.kind) before after))
