-- A running job, and the work of a state that it is (own).
use Rattle.std.specs.Prelude.{◌≡◌, ◌<◌, ◌*◌, ℕ, true, List, [], length}
use Rattle.link_ring.specs.Ends.{EndView}
use Rattle.node_model.specs.Clocks.{ClockSet}
use Rattle.node_model.specs.Ends.{EndName}
use Rattle.node_model.specs.Jobs.{Work, is_move, side_of}
use Rattle.node_model.specs.Look.{Look}
use Rattle.node_model.specs.SetUp.{SetUp}
use Rattle.node_model.specs.State.{State}
use Rattle.object_store.specs.Stores.{Parts}
use Rattle.content_lock.specs.Rows.{Rows}
use Rattle.node_ends.specs.Ends.{SeesEnds, end_at}
use Rattle.drop_phases.specs.declared.phase.Token.TheVariants as tokens
use Rattle.drop_phases.specs.Doing.{HasToken}
use Rattle.drop_phases.specs.Sides.{HasTarget}
use Rattle.drop_phases.specs.Working.{words_of}
use Rattle.node_drops.specs.Drops.{HasRead, IsDrop, place_reading, work_now as drop_work}
use Rattle.node_drops.specs.Feeds.{SeesJob}
use Rattle.node_drops.specs.Places.{IsPlace, PlaceView}
use Rattle.node_transfers.specs.declared.job.TransferJob.{TransferJob}
use Rattle.node_transfers.specs.Workers.{CanStep, HasFill, IsFed, work_of}
use Rattle.transfer_turns.specs.Partners.{TalksApart}
use Rattle.node_transfers.specs.Ready.{NamesPeer, sight_of}
use Rattle.node_tasks.specs.declared.task.Task.{Task}
use Rattle.node_tasks.specs.declared.task.Task.TheVariants as tasks

-- ---- the work that it is

abbrev pub work_now : Task → Work
work_now (tasks.Drops j) = drop_work j
work_now (tasks.Transfers w) = work_of w

abbrev pub number_of : Task → ℕ
number_of t = (work_now t).number

abbrev pub slot_of : Task → ℕ
slot_of t = (work_now t).slot

-- ---- how it stands in its repository

-- a transfer, in one of the four slots, with other repositories alone; the drop of a move has its target
pub record IsTransfer (p : PlaceView) (w : TransferJob) : Type 0 where
  pub can : CanStep (sight_of p.number (length p.ids) []) w
  pub slot : (work_of w).slot < 4
  pub names : NamesPeer p.number (length p.ids) (work_of w)
  pub apart : TalksApart (sight_of p.number (length p.ids) []) (work_of w)
  pub target : is_move (work_of w).what.kind ≡ true → HasTarget (side_of (work_of w)) (work_of w).what.peer (place_reading p)

-- a drop, or a transfer
abbrev pub IsTask : PlaceView → Task → Type 0
IsTask p (tasks.Drops j) = IsDrop p j
IsTask p (tasks.Transfers w) = IsTransfer p w

-- what it has of the table: a drop its token; a transfer no token, and the right to fill its key where it fills it
abbrev pub OwnsOf : Rows → Task → Type 0
OwnsOf rows (tasks.Drops j) = HasToken j.worker.number j.worker.job.key j.worker.token rows
OwnsOf rows (tasks.Transfers w) = HasToken (work_of w).number (work_of w).what.key tokens.Nothing rows × HasFill rows w

-- it has nothing of the table that bars or holds
abbrev pub IsSpent : Task → Type 0
IsSpent (tasks.Drops j) = j.worker.token ≡ tokens.Nothing
IsSpent (tasks.Transfers w) = Unit {0}

-- what a transfer has taken of its part is the store's part
abbrev pub IsFedTask : Parts → Task → Type 0
IsFedTask q (tasks.Drops j) = Unit {0}
IsFedTask q (tasks.Transfers w) = IsFed q w

-- what a drop has read of the logs; a transfer has read nothing, and would read the logs
abbrev pub HasReadOf : SetUp → State → Task → Type 0
HasReadOf s st (tasks.Drops j) = HasRead s st j.worker j.known
HasReadOf s st (tasks.Transfers w) = st.read (work_of w).number ≡ st.logs

-- the words that a drop heard beside its peers' answers
abbrev pub HearsWords : Task → Look → Type 0
HearsWords (tasks.Drops j) k = words_of j.worker ≡ k.words
HearsWords (tasks.Transfers w) k = Unit {0}

-- ---- what it sees

-- what the repository is as one of its transfers looks
pub record SeesWays (p : PlaceView) (links : List EndView) (w : TransferJob) (s : SetUp) (st : State) (k : Look) : Type 0 where
  pub place : IsPlace p s
  pub read : st.read (work_of w).number ≡ st.logs
  pub count : length links ≡ length s.repos * 8
  pub ends : (a : EndName) → st.ends a ≡ end_at links a
  pub sees : SeesEnds links s k

abbrev pub SeesTask : PlaceView → ClockSet → List EndView → ℕ → SetUp → State → Look → Task → Type 0
SeesTask p clock links time s st k (tasks.Drops j) = SeesJob p clock links j time s st k
SeesTask p clock links time s st k (tasks.Transfers w) = SeesWays p links w s st k
