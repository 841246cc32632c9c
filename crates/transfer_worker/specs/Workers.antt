-- What a transfer's worker is, on either way of the content (own).
use Rattle.std.specs.Prelude.{◌≡◌, ◌||◌, ℕ, Bool, false, [], Option, Some, None, Result, Ok, Err}
use Rattle.std.specs.Option.{ForSome}
use Rattle.run_data.specs.declared.entry.EntryKind.{EntryKind}
use Rattle.run_data.specs.declared.job.Job.{Job}
use Rattle.object_store.specs.Stores.{AreSmallParts, Parts}
use Rattle.node_model.specs.Jobs.{Drops, Work, Fresh, Puts, first_part, is_move}
use Rattle.content_lock.specs.Rows.{Rows}
use Rattle.session_state.specs.declared.incoming.Incoming.{Incoming}
use Rattle.session_state.specs.Phases.{IsNoGain}
use Rattle.transfer_turns.specs.declared.parcels.Output.{Output}
use Rattle.transfer_turns.specs.Parcels.{ArePiecesOf}
use Rattle.transfer_turns.specs.Partners.{NamesOther, TalksApart}
use Rattle.transfer_turns.specs.Steps.{Leaves, LeavesAll, Seen, StepsIn, is_end}
use Rattle.transfer_turns.specs.Turns.{Sight}
use Rattle.get_phases.specs.Gets as gets
use Rattle.get_phases.specs.Gets.{source_in}
use Rattle.get_phases.specs.declared.getting.Getting.{Getting}
use Rattle.get_phases.specs.declared.getting.Phase.{Phase as GetPhase}
use Rattle.get_phases.specs.declared.getting.Phase.TheVariants as phases
use Rattle.put_steps.specs.Puts as puts
use Rattle.put_steps.specs.declared.phase.Phase.{Phase as PutPhase}
use Rattle.put_steps.specs.declared.phase.Phase.TheVariants as offers
use Rattle.put_steps.specs.declared.putting.Putting.{Putting}
use Rattle.put_steps.specs.Putting.{SeesNoPart}
use Rattle.put_steps.specs.Puts.{HasPeer}
use Rattle.transfer_worker.specs.declared.worker.Finished.{Finished}
use Rattle.transfer_worker.specs.declared.worker.Worker.{Worker}
use Rattle.transfer_worker.specs.declared.worker.Worker.TheVariants as workers

-- the job's work
abbrev pub work_of : Worker → Work
work_of (workers.Gets w) = gets.work_of w
work_of (workers.Puts w) = puts.work_of w

-- that of a job that begins, in this slot
abbrev pub new_work_of : ℕ → ℕ → Job → Work
new_work_of number slot what = record { number = number; slot = slot; what = what; part = first_part what.kind; phase = Fresh; fills = false; version = 3; heard = []; causes = [] }

-- that of a drop that begins, after a transfer that is done
abbrev pub drop_after : Finished → Work
drop_after f = record { number = f.number; slot = f.slot; what = f.job; part = Drops; phase = Fresh; fills = false; version = f.version; heard = []; causes = f.causes.items }

-- its transfer is done, and its drop is to begin
abbrev pub is_done : Worker → Bool
is_done (workers.Gets w) = gets.is_done w.phase
is_done (workers.Puts w) = puts.is_done w.phase

-- it brings the content here, or sends it to its peer, which is another repository; and it isn't done
abbrev pub CanStep : Sight → Worker → Type 0
CanStep x (workers.Gets w) = gets.is_done w.phase ≡ false
CanStep x (workers.Puts w) = (first_part w.job.kind ≡ Puts) × (puts.is_done w.phase ≡ false) × HasPeer x w.job.peer

-- the table gave the right to fill that it has, of its key
abbrev pub HasFill : Rows → Worker → Type 0
HasFill rows (workers.Gets w) = gets.HasFill rows w
HasFill rows (workers.Puts w) = Unit {0}

-- what it has taken of its part is the store's part
abbrev pub IsFed : Parts → Worker → Type 0
IsFed p (workers.Gets w) = gets.IsFed p w.phase
IsFed p (workers.Puts w) = Unit {0}

-- how it sees the part: its size, or at VALID whether it matches its key
abbrev pub SeesPart : Option Parts → Worker → Option Incoming → ℕ → Bool → Type 0
SeesPart known (workers.Gets w) i part right = gets.SeesPart known w.job.key w.phase i part right
SeesPart known (workers.Puts w) i part right = SeesNoPart part right

-- the parts after its step
abbrev pub parts_after : Worker → Option Incoming → EntryKind → Option Parts → Option Parts
parts_after (workers.Gets w) i kind known = gets.parts_after w.phase i kind known
parts_after (workers.Puts w) i kind known = known

-- a content comes only of a part whose sum is its key's, to a get
abbrev pub IsJudgedIn : EntryKind → Worker → Type 0
IsJudgedIn kind (workers.Gets w) = gets.IsJudgedIn kind w.phase
IsJudgedIn kind (workers.Puts w) = IsNoGain kind

-- ---- to whom it sends next

-- the peer that a get asks next, where it is to ask one
abbrev pub asks_at : Sight → Getting → GetPhase → Option ℕ
asks_at x w phases.Fresh = source_in x w
asks_at x w (phases.Next fill) = source_in x w
asks_at x w phase = None

abbrev pub asked_next : Sight → Getting → Option ℕ
asked_next x w = asks_at x w w.phase

-- the peer to which a copy offers the content, or sends it
abbrev pub sends_at : Putting → PutPhase → Option ℕ
sends_at w offers.Fresh = w.job.peer
sends_at w (offers.Bytes s) = Some s.peer
sends_at w (offers.Word peer start) = Some peer
sends_at w phase = None

abbrev pub sent_next : Putting → Option ℕ
sent_next w = sends_at w w.phase

-- ---- what a step does

-- the step is that of the job that is told this
abbrev pub Steps : {E : Type 0} → Sight → Option Incoming → Rows → Seen → Seen → Worker → Worker → Result Output E → Type 0
Steps x i rows k k' w w' (Ok out) = StepsIn x rows k k' (work_of w) (work_of w') i (SeesPart k.parts w i) out
Steps x i rows k k' w w' (Err e) = Unit {0}

-- ---- what a step leaves

-- of the table and the store, of the parts, which stay short; each piece that it sends is of the content that it is sending; and of
-- the job: it talks with another repository still, and only the transfer of a move is done
pub record KeepsSo (x : Sight) (i : Option Incoming) (rows rows' : Rows) (k k' : Seen) (w w' : Worker) (out : Output) : Type 0 where
  pub leaves : Leaves rows rows' k k' (work_of w) (work_of w') out
  pub parts : k'.parts ≡ parts_after w i out.kind k.parts
  pub has : HasFill rows' w'
  pub fed : ForSome k.parts (λ p. IsFed p w → ForSome k'.parts (λ p'. IsFed p' w'))
  pub small : AreSmallParts k.parts → AreSmallParts k'.parts
  pub judged : IsJudgedIn out.kind w
  pub pieces : ArePiecesOf k.contents (work_of w) out.sends.items
  pub ended : out.ended ≡ (is_end out.kind || is_done w')
  pub apart : NamesOther x (work_of w) → TalksApart x (work_of w) → TalksApart x (work_of w')
  pub undone : is_move (work_of w).what.kind ≡ false → is_done w ≡ false → is_done w' ≡ false
  pub can : is_done w' ≡ false → CanStep x w → CanStep x w'

-- it leaves that; or there was no memory, and all is as it was
abbrev pub Keeps : {E : Type 0} → Sight → Option Incoming → Rows → Rows → Seen → Seen → Worker → Worker → Result Output E → Type 0
Keeps x i rows rows' k k' w w' (Ok out) = KeepsSo x i rows rows' k k' w w' out
Keeps x i rows rows' k k' w w' (Err e) = (w' ≡ w) × (rows' ≡ rows) × LeavesAll k k'
