-- What a step of a get does and leaves, in one fact (own).
use Rattle.std.specs.Prelude.{◌≡◌, ◌||◌, false, Option, Result, Ok, Err}
use Rattle.std.specs.Option.{ForSome}
use Rattle.object_store.specs.Stores.{AreSmallParts}
use Rattle.node_model.specs.Jobs.{is_move}
use Rattle.content_lock.specs.Rows.{Rows}
use Rattle.session_state.specs.declared.incoming.Incoming.{Incoming}
use Rattle.transfer_turns.specs.declared.parcels.Output.{Output}
use Rattle.transfer_turns.specs.Parcels.{AreNoPieces}
use Rattle.transfer_turns.specs.Partners.{StaysApart}
use Rattle.transfer_turns.specs.Steps.{Leaves, LeavesAll, Seen, StepsIn, is_end}
use Rattle.transfer_turns.specs.Turns.{Sight}
use Rattle.get_phases.specs.declared.getting.Getting.{Getting}
use Rattle.get_phases.specs.Gets.{HasFill, IsFed, IsJudgedIn, SeesPart, is_done, parts_after, work_of}

-- what it leaves: the table, the store and the part, over which a content comes only where it matches; it sends no piece of a
-- content; it talks with another repository still, and only the transfer of a move is done
pub record Keeps (x : Sight) (i : Option Incoming) (rows rows' : Rows) (k k' : Seen) (w w' : Getting) (out : Output) : Type 0 where
  pub leaves : Leaves rows rows' k k' (work_of w) (work_of w') out
  pub parts : k'.parts ≡ parts_after w.phase i out.kind k.parts
  pub has : HasFill rows' w'
  pub fed : ForSome k.parts (λ p. IsFed p w.phase → ForSome k'.parts (λ p'. IsFed p' w'.phase))
  pub small : AreSmallParts k.parts → AreSmallParts k'.parts
  pub judged : IsJudgedIn out.kind w.phase
  pub pieces : AreNoPieces out.sends.items
  pub ended : out.ended ≡ (is_end out.kind || is_done w'.phase)
  pub apart : StaysApart x (work_of w) (work_of w')
  pub undone : is_move w.job.kind ≡ false → is_done w.phase ≡ false → is_done w'.phase ≡ false

-- want of memory left all as it was
pub record Stays (rows rows' : Rows) (k k' : Seen) (w w' : Getting) : Type 0 where
  pub worker : w' ≡ w
  pub table : rows' ≡ rows
  pub store : LeavesAll k k'

-- the step is that of the job that is told this; or nothing changed
abbrev pub Does : {E : Type 0} → Sight → Option Incoming → Rows → Rows → Seen → Seen → Getting → Getting → Result Output E → Type 0
Does x i rows rows' k k' w w' (Ok out) = StepsIn x rows k k' (work_of w) (work_of w') i (SeesPart k.parts w.job.key w.phase i) out × Keeps x i rows rows' k k' w w' out
Does x i rows rows' k k' w w' (Err e) = Stays rows rows' k k' w w'
