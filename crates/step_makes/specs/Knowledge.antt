-- What the step of a job must know of the logs, and the states of which a turn is one; for private contracts.
use Rattle.std.specs.Prelude.{◌≡◌, Bool, true, false, Option, Some, None}
use Rattle.node_model.specs.Jobs.{Drops, Late, Next, Part, Phase, Removed}
use Rattle.node_model.specs.SetUp.{SetUp}
use Rattle.node_model.specs.Slots.{job_of}
use Rattle.node_model.specs.State.{State}
use Rattle.step_judging.specs.Telling.{room_told}
use Rattle.state_jobs.specs.Phases.{part_of, phase_of}
use Rattle.state_works.specs.Jobs.{works_of}
use Rattle.step_state.specs.States.{IsStateOf}
use Rattle.job_makes.specs.Turns.{set_up_in, state_in, turn_in}
use Rattle.job_makes.specs.declared.turn.Turn.{Turn}
use Rattle.drop_makes.specs.Knowings.{drop_in}
use Rattle.drop_makes.specs.declared.knowing.Knowing.{Knowing}

-- ---- what a step knows of the logs

-- the step of a job that is at this reads the logs
abbrev pub reads_logs : Part → Phase → Bool
reads_logs Drops phase = true
reads_logs part Removed = true
reads_logs part (Late time) = true
reads_logs part phase = false

-- it judges by them where it needs room
abbrev pub is_judging : Part → Phase → Bool
is_judging Drops Next = true
is_judging part phase = false

-- it is known what this turn's step reads of them, if it reads them
abbrev pub KnowsEnough : Turn → Option Knowing → Type 0
KnowsEnough x None = reads_logs (part_of x.work.now.part) (phase_of x.work.now.phase) ≡ false
KnowsEnough x (Some k) = k.turn.now ≡ x

-- it is known by what it judges, if it judges
abbrev pub CanJudge : Turn → Option Knowing → Type 0
CanJudge x None = is_judging (part_of x.work.now.part) (phase_of x.work.now.phase) ≡ false
CanJudge x (Some k) = k.turn.now ≡ x

-- what is known is what the job has read
abbrev pub IsReadBy : Turn → Option Knowing → SetUp → State → Type 0
IsReadBy x None s st = Unit {0}
IsReadBy x (Some k) s st = turn_in x s st ≡ drop_in x k.logs.now s st

-- ---- whose turn it is

-- the turn is one in this state of the repository
pub record IsTurnOf (x : Turn) (s : SetUp) (st : State) : Type 0 where
  pub repos : s.repos ≡ x.repos.now
  pub state_is : IsStateOf x.state.now s st
  pub set_up : set_up_in x s ≡ s
  pub state : state_in x st ≡ st

-- the job has room for a frame at each end, as the entry tells
abbrev pub HasRoom : Turn → Type 0
HasRoom x =
    room_told (works_of x.jobs.now) (job_of x.told.now.kind) x.told.now.taken x.told.now.sent (record { peer = 0; slot = x.work.now.slot; client = true }) ≡ true
