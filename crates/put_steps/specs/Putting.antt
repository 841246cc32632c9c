-- What a step of a copy does and leaves, in one fact (own).
use Rattle.std.specs.Prelude.{◌≡◌, ◌||◌, ℕ, Bool, false, Option, Result, Ok, Err}
use Rattle.node_model.specs.Jobs.{is_move}
use Rattle.content_lock.specs.Rows.{Rows}
use Rattle.session_state.specs.declared.incoming.Incoming.{Incoming}
use Rattle.session_state.specs.Phases.{IsNoGain}
use Rattle.transfer_turns.specs.declared.parcels.Output.{Output}
use Rattle.transfer_turns.specs.Parcels.{ArePiecesOf}
use Rattle.transfer_turns.specs.Partners.{StaysApart}
use Rattle.transfer_turns.specs.Steps.{Leaves, LeavesAll, Seen, StepsIn, is_end}
use Rattle.transfer_turns.specs.Turns.{Sight}
use Rattle.put_steps.specs.declared.putting.Putting.{Putting}
use Rattle.put_steps.specs.Puts.{is_done, work_of}

-- what it leaves: the table and the parts as they were, and no content more; each piece that it sends is of the content that it is
-- sending; it talks with another repository still, and only the transfer of a move is done
pub record Keeps (x : Sight) (rows : Rows) (k k' : Seen) (w w' : Putting) (out : Output) : Type 0 where
  pub leaves : Leaves rows rows k k' (work_of w) (work_of w') out
  pub parts : k'.parts ≡ k.parts
  pub still : IsNoGain out.kind
  pub pieces : ArePiecesOf k.contents (work_of w) out.sends.items
  pub ended : out.ended ≡ (is_end out.kind || is_done w'.phase)
  pub apart : StaysApart x (work_of w) (work_of w')
  pub undone : is_move w.job.kind ≡ false → is_done w.phase ≡ false → is_done w'.phase ≡ false

-- want of memory left all as it was
pub record Stays (k k' : Seen) (w w' : Putting) : Type 0 where
  pub worker : w' ≡ w
  pub store : LeavesAll k k'

-- it reads no part
abbrev pub SeesNoPart : ℕ → Bool → Type 0
SeesNoPart part right = Unit {0}

-- the step is that of the job that is told this; or nothing changed
abbrev pub Does : {E : Type 0} → Sight → Option Incoming → Rows → Seen → Seen → Putting → Putting → Result Output E → Type 0
Does x i rows k k' w w' (Ok out) = StepsIn x rows k k' (work_of w) (work_of w') i SeesNoPart out × Keeps x rows k k' w w' out
Does x i rows k k' w w' (Err e) = Stays k k' w w'
