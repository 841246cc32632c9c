-- Whether a transfer has a step, and what it is told in it (own).
use Rattle.std.specs.Prelude.{◌≡◌, ◌<◌, ℕ, ◌==◌, false, List, length, Option, Some, None, IfSome, option_and_then}
use Rattle.run_data.specs.declared.entry.FrameView.{FrameView}
use Rattle.link_ring.specs.Ends.{EndView}
use Rattle.node_model.specs.Ends.{EndName}
use Rattle.node_model.specs.Jobs.{Work}
use Rattle.node_model.specs.JobStep.{turn_of}
use Rattle.node_model.specs.Look.{Look}
use Rattle.node_model.specs.SetUp.{SetUp}
use Rattle.node_model.specs.State.{State}
use Rattle.node_model.specs.Turns.{slot_step}
use Rattle.node_ends.specs.Ends.{SeesEnds, end_at, wait_at}
use Rattle.end_hearing.specs.declared.hearing.Arrival.{Arrival}
use Rattle.end_hearing.specs.Hearing.{Hears}
use Rattle.transfer_turns.specs.Parcels.{end_in}
use Rattle.transfer_turns.specs.Turns.{Comes, Sight, awaited}
use Rattle.transfer_worker.specs.declared.worker.Worker.{Worker}
use Rattle.transfer_worker.specs.States.{FindsAt}
use Rattle.transfer_worker.specs.Workers.{work_of}

-- the repository of this number among so many, with these ends
abbrev pub sight_of : ℕ → ℕ → List EndView → Sight
sight_of repo count links = record { repo = repo; count = count; ends = end_at links }

-- the peer that the job names, if it names one, is another of the repositories
abbrev pub NamesPeer : ℕ → ℕ → Work → Type 0
NamesPeer repo count v = IfSome v.what.peer (λ peer. (peer < count) × ((repo == peer) ≡ false))

-- the state and the look are what these ends of the repository are
pub record SeesWays (repo count : ℕ) (links : List EndView) (s : SetUp) (st : State) (k : Look) : Type 0 where
  pub number : s.number ≡ repo
  pub among : length s.repos ≡ count
  pub ends : (a : EndName) → st.ends a ≡ end_at links a
  pub sees : SeesEnds links s k

-- the frame that is taken from the peer, in this slot
abbrev pub taken_by : List EndView → ℕ → Option ℕ → Option FrameView
taken_by links slot takes = option_and_then (λ peer. wait_at links (end_in slot peer)) takes

-- it has a step, which is told this
abbrev pub IsReady : ℕ → ℕ → List EndView → Work → Arrival → Type 0
IsReady repo count links v x = (s : SetUp) (st : State) (k : Look) → SeesWays repo count links s st k
    → FindsAt (turn_of s st k v) (awaited v) (taken_by links v.slot x.takes) × Comes (sight_of repo count links) v.slot (awaited v) (taken_by links v.slot x.takes) x.incoming

-- it has none
abbrev pub IsIdle : ℕ → ℕ → List EndView → Work → Type 0
IsIdle repo count links v = (s : SetUp) (st : State) (k : Look) → SeesWays repo count links s st k → slot_step s st k (Some v) ≡ None

abbrev pub Has : ℕ → ℕ → List EndView → Work → Option Arrival → Type 0
Has repo count links v None = IsIdle repo count links v
Has repo count links v (Some x) = IsReady repo count links v x

-- what it is told is what came at the end where it awaits a frame; nothing where it awaits none
abbrev pub IsTold : List EndView → ℕ → Option ℕ → Option Arrival → Type 0
IsTold links slot None o = IfSome o (λ x. (x.incoming ≡ None) × (x.takes ≡ None))
IsTold links slot (Some peer) o = Hears links (end_in slot peer) o

pub record Answers (repo count : ℕ) (links : List EndView) (w : Worker) (o : Option Arrival) : Type 0 where
  pub has : Has repo count links (work_of w) o
  pub told : IsTold links (work_of w).slot (awaited (work_of w)) o
