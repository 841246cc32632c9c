-- What a job is told, and whether it has a step; for private contracts (own).
use Rattle.std.specs.Prelude.{◌≡◌, ℕ, ◌*◌, Bool, true, false, List, length, Option, Some, None}
use Rattle.annex_base.specs.declared.kinds.Word.{Word}
use Rattle.run_data.specs.declared.entry.FrameView.{FrameView}
use Rattle.link_ring.specs.Ends.{EndView}
use Rattle.node_ends.specs.Ends.{SeesEnds, end_at, room_at, wait_at}
use Rattle.object_store.specs.Stores.{Contents}
use Rattle.node_model.specs.Clocks.{ClockSet, runs_on}
use Rattle.node_model.specs.Ends.{EndName}
use Rattle.node_model.specs.JobStep.{turn_of}
use Rattle.node_model.specs.Look.{Look}
use Rattle.node_model.specs.SetUp.{SetUp}
use Rattle.node_model.specs.State.{State}
use Rattle.node_model.specs.Jobs.{Work}
use Rattle.node_model.specs.Turns.{needs, slot_step}
use Rattle.content_lock.specs.Rows.{Rows}
use Rattle.drop_phases.specs.declared.turn.Taken.{Taken}
use Rattle.drop_phases.specs.declared.turn.Taken.TheVariants as takens
use Rattle.drop_worker.specs.Feeding.{FeedsFrameAt, FindsAt}
use Rattle.drop_worker.specs.Leaving.{stands_on}
use Rattle.drop_worker.specs.States.{IsSight, HaveState}
use Rattle.drop_worker.specs.Worker.{Worker}
use Rattle.drop_worker.specs.Working.{end_in, sight, taken_of}
use Rattle.node_drops.specs.declared.feed.Feed.{Feed}
use Rattle.node_drops.specs.Waiting.{taken_by, word_at}
use Rattle.node_drops.specs.Reads.{KnownLogs, reading_of}
use Rattle.node_drops.specs.Places.{IsPlace, PlaceView}
use Rattle.node_drops.specs.Drops.{DropJob, HadPaths, HasRead, place_reading, work_now}

-- what is told, without a frame and a word
abbrev pub bare_feed : Taken → Feed
bare_feed taken = record { taken = taken; word = None; takes = None }

abbrev pub feed_of : ℕ → Option Word → Option FrameView → Option Feed
feed_of peer word None = None
feed_of peer word (Some f) = Some (record { taken = taken_of f.body; word = word; takes = Some peer })

-- what came at an end: that it is closed, or a frame where it has room
abbrev pub feed_by : Bool → Bool → Option Feed → Option Feed
feed_by false room feed = Some (bare_feed takens.Closed)
feed_by true false feed = None
feed_by true true feed = feed

abbrev pub feed_at : List EndView → EndName → Option Feed
feed_at links a = feed_by (end_at links a).opened (room_at links a) (feed_of a.peer (word_at links a) (wait_at links a))

-- what the repository is as one of its jobs looks
pub record SeesJob (p : PlaceView) (clock : ClockSet) (links : List EndView) (j : DropJob) (time : ℕ) (s : SetUp) (st : State) (k : Look) : Type 0 where
  pub place : IsPlace p s
  pub paths : HadPaths s j.worker.number j.paths
  pub read : HasRead s st j.worker j.known
  pub count : length links ≡ length s.repos * 8
  pub ends : (a : EndName) → st.ends a ≡ end_at links a
  pub sees : SeesEnds links s k
  pub ticks : st.clock ≡ runs_on clock
  pub at : time ≡ k.time

-- the job has a step, which is told this
abbrev pub IsReady : PlaceView → ClockSet → List EndView → DropJob → ℕ → Feed → Type 0
IsReady p clock links j time feed = (rows : Rows) (c : Contents) (s : SetUp) (st : State) (k : Look) → SeesJob p clock links j time s st k → HaveState rows c st
    → FindsAt (turn_of s st k (work_now j)) (stands_on j.worker) (taken_by links j.worker.slot feed.takes)
    × FeedsFrameAt (sight (place_reading p) (end_at links) time 0) j.worker.slot (stands_on j.worker) (taken_by links j.worker.slot feed.takes) feed.taken

-- it has none
abbrev pub IsIdle : PlaceView → ClockSet → List EndView → DropJob → ℕ → Type 0
IsIdle p clock links j time = (rows : Rows) (c : Contents) (s : SetUp) (st : State) (k : Look) → SeesJob p clock links j time s st k → HaveState rows c st → slot_step s st k (Some (work_now j)) ≡ None

abbrev pub Answers : PlaceView → ClockSet → List EndView → DropJob → ℕ → Option Feed → Type 0
Answers p clock links j time None = IsIdle p clock links j time
Answers p clock links j time (Some feed) = IsReady p clock links j time feed

-- the peers to which a job that knows this may send more than a Close, where it awaits no frame
abbrev pub PeersOf : PlaceView → ClockSet → List EndView → Worker → KnownLogs → ℕ → List ℕ → Type 0
PeersOf p clock links w known time peers = (number : ℕ) (rows : Rows) (c : Contents) (s : SetUp) (st : State) (k : Look) (v : Work)
    → IsSight (sight (reading_of p clock known) (end_at links) time number) s st k w v → HaveState rows c st → peers ≡ needs (turn_of s st k v) v.phase

-- a job that awaits a frame is told what came at its partner's end
abbrev pub IsFedAt : List EndView → DropJob → Feed → Type 0
IsFedAt links j feed = (peer : ℕ) → stands_on j.worker ≡ Some peer → Some feed ≡ feed_at links (end_in j.worker.slot peer)
