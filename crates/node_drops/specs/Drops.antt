-- A drop of a running job, and the work of a state that it is (own).
use Rattle.std.specs.Prelude.{◌≡◌, ℕ, ◌<◌, true, false, List, [], length, Option, Some, None}
use Rattle.run_data.specs.declared.job.SourceFailure.{SourceFailure}
use Rattle.node_model.specs.After.{has_read}
use Rattle.node_model.specs.Evidence as drops
use Rattle.node_model.specs.Jobs.{Drops, Work}
use Rattle.node_model.specs.Knows.{Reading, need_of, required_of, standing_of}
use Rattle.node_model.specs.SetUp.{SetUp}
use Rattle.node_model.specs.State.{State}
use Rattle.drop_worker.specs.Apart.{IsApart}
use Rattle.drop_worker.specs.Begun.{HasBegun}
use Rattle.drop_phases.specs.declared.phase.Phase.{Phase}
use Rattle.drop_phases.specs.declared.phase.Phase.TheVariants as phases
use Rattle.drop_worker.specs.Sides.{FitsSide, HasTarget, HearsOwn, side_in}
use Rattle.drop_worker.specs.Worker.{Worker}
use Rattle.drop_worker.specs.Working.{Rest, phase_as, work_of}
use Rattle.node_drops.specs.Places.{PlaceView}
use Rattle.node_drops.specs.Reads.{KnownLogs, standing_in}

-- a drop: its worker, the paths that its key had as it began, what it read of the logs at its first step, and why the sources of
-- the transfer before it gave nothing: none but for the drop of a move
pub record DropJob : Type 0 where
  pub worker : Worker
  pub paths : List (List ℕ)
  pub known : Option KnownLogs
  pub causes : List SourceFailure

-- ---- the work that it is

-- a job that drops from its beginning fills nothing, and asks no source
abbrev pub plain : Rest
plain = record { content = λ key. None; filled = λ key. false; fills = false; causes = []; count = 0; at_hand = []; room = λ a. false; part = 0; right = false }

-- the drop of a move keeps why the sources of its transfer gave nothing
abbrev pub plain_with : List SourceFailure → Rest
plain_with causes = record plain { causes = causes }

abbrev pub work_now : DropJob → Work
work_now j = work_of (plain_with j.causes) j.worker

-- it is past its first step, and has read of the logs what the state says that it has
pub record ReadSo (s : SetUp) (st : State) (w : Worker) (known : KnownLogs) : Type 0 where
  pub begun : has_read Drops (phase_as w.phase) ≡ true
  pub need : need_of s st (work_of plain w) ≡ known.need
  pub standing : (c : ℕ) → standing_of s st (work_of plain w) c ≡ standing_in known c
  pub requires : required_of s st (work_of plain w) ≡ known.requires

-- before its first step it has read nothing, and would read the logs
abbrev pub HasRead : SetUp → State → Worker → Option KnownLogs → Type 0
HasRead s st w None = (w.phase ≡ phases.Fresh) × (st.read w.number ≡ st.logs)
HasRead s st w (Some known) = ReadSo s st w known

-- the key of the job of this number had these paths in the tree as the job began
abbrev pub HadPaths : SetUp → ℕ → List (List ℕ) → Type 0
HadPaths s job paths = paths ≡ s.paths job

-- the set-up where the keys of all jobs had these paths
abbrev pub given : SetUp → List (List ℕ) → SetUp
given s paths = record s { paths = λ job. paths }

-- ---- what it has of the table

-- the reading of a job at this place, whatever it has read
abbrev pub place_reading : PlaceView → Reading
place_reading p = record { repo = p.number; count = length p.ids; clock = λ time. time; need = record { n = 0; m = 0 }; standing = λ c. drops.Asked; requires = None }

-- a job that has read nothing is to begin; another is past its first step
abbrev pub HasReadByPhase : PlaceView → Phase → Option KnownLogs → Type 0
HasReadByPhase p phase None = phase ≡ phases.Fresh
HasReadByPhase p phase (Some known) = HasBegun (place_reading p) phase

-- a job that is to begin has heard nothing
abbrev pub BeginsUnheard : DropJob → Type 0
BeginsUnheard j = j.worker.phase ≡ phases.Fresh → j.worker.heard ≡ []

-- a drop that removes from its peer has heard of its own repository, unless it is to begin
abbrev pub HasHeardOwn : PlaceView → Worker → Type 0
HasHeardOwn p w = (w.phase ≡ phases.Fresh → ⊥) → HearsOwn (side_in w) (place_reading p) w

-- a drop in one of the four slots, with the token of its phase; one that removes from its peer has another repository as its peer
pub record IsDrop (p : PlaceView) (j : DropJob) : Type 0 where
  pub target : HasTarget (side_in j.worker) j.worker.job.peer (place_reading p)
  pub slot : j.worker.slot < 4
  pub fits : FitsSide (side_in j.worker) j.worker.phase j.worker.token
  pub stands : HasReadByPhase p j.worker.phase j.known
  pub own : HasHeardOwn p j.worker
  pub apart : IsApart (side_in j.worker) j.worker.job.peer j.worker
  pub unheard : BeginsUnheard j
