-- The work that a worker is, and what it reads in a turn (own).
use Rattle.std.specs.Prelude.{ℕ, ◌==◌, Bool, true, false, ◌&&◌, not, if◌then◌else◌, List, [], ◌∷◌, ◌++◌, find, flat_map, map, Option, Some, None, option_map, is_some}
use Rattle.object_store.specs.Stores.{Contents}
use Rattle.std.specs.List.{range_with_len}
use Rattle.annex_base.specs.declared.kinds.Call.{Call}
use Rattle.annex_base.specs.declared.kinds.Word.{Word}
use Rattle.run_data.specs.declared.entry.FrameText.{FrameText}
use Rattle.run_data.specs.declared.entry.FrameText.TheVariants.{Opening, Closing, Bytes, Line}
use Rattle.run_data.specs.declared.entry.FrameView.{FrameView}
use Rattle.run_data.specs.declared.job.Outcome.{Outcome}
use Rattle.run_data.specs.declared.job.Outcome.TheVariants.{Refused}
use Rattle.run_data.specs.declared.job.DropRefusal.TheVariants as refusals
use Rattle.run_data.specs.declared.job.SourceFailure.{SourceFailure}
use Rattle.p2p_wire.specs.declared.message.Message.{Message}
use Rattle.p2p_wire.specs.Messages.{message_of, text_of}
use Rattle.node_model.specs.Rows.{option_is}
use Rattle.node_model.specs.Evidence.{but}
use Rattle.node_model.specs.Ends.{EndName, End, frames}
use Rattle.node_model.specs.Jobs
use Rattle.node_model.specs.Jobs.{Work, Drops, drop_side}
use Rattle.drop_proof.specs.declared.rule.Side.{Side}
use Rattle.drop_proof.specs.declared.rule.Side.TheVariants.{Local, Remote}
use Rattle.node_model.specs.Knows.{Reading}
use Rattle.node_model.specs.Look.{Look, Effect}
use Rattle.p2p_wire.specs.declared.message.Message.TheVariants.{UnlockContent}
use Rattle.node_model.specs.JobStep.{Turn, is_held}
use Rattle.content_lock.specs.Rows.{Rows, bar_at}
use Rattle.drop_phases.specs.declared.phase.Heard.{Heard}
use Rattle.drop_phases.specs.declared.phase.Heard.TheVariants as heards
use Rattle.drop_phases.specs.declared.phase.Phase.{Phase}
use Rattle.drop_phases.specs.declared.phase.Phase.TheVariants as phases
use Rattle.drop_phases.specs.declared.phase.Ending.{Ending}
use Rattle.drop_phases.specs.declared.phase.Ending.TheVariants as endings
use Rattle.drop_phases.specs.declared.turn.Taken.{Taken}
use Rattle.drop_phases.specs.declared.turn.Taken.TheVariants as takens
use Rattle.drop_phases.specs.declared.turn.Parcel.{Parcel}
use Rattle.drop_phases.specs.declared.turn.ParcelBody.{ParcelBody}
use Rattle.drop_phases.specs.declared.turn.ParcelBody.TheVariants as bodies
use Rattle.drop_phases.specs.declared.turn.Output.{Output}
use Rattle.drop_phases.specs.Worker.{Worker}

-- ---- the work

abbrev pub heard_as : Heard → Jobs.Heard
heard_as (heards.Held since) = Jobs.Held since
heard_as heards.Seen = Jobs.Seen
heard_as (heards.Unseen word) = Jobs.Unseen
heard_as (heards.Lacks cause) = Jobs.Lacks cause

abbrev pub outcome_as : Ending → Outcome
outcome_as (endings.Lost ordered) = Refused (refusals.Lost ordered)
outcome_as (endings.OldProtocol version) = Refused (refusals.OldProtocol version)
outcome_as endings.StoreFault = Refused refusals.StoreFault

abbrev pub phase_as : Phase → Jobs.Phase
phase_as phases.Fresh = Jobs.Fresh
phase_as phases.Next = Jobs.Next
phase_as (phases.Opens peer) = Jobs.Opens peer
phase_as (phases.Greets peer) = Jobs.Greets peer
phase_as (phases.AsksLock peer since) = Jobs.AsksLock peer since
phase_as (phases.AsksLook peer) = Jobs.AsksLook peer
phase_as phases.AsksTime = Jobs.AsksTime
phase_as phases.Orders = Jobs.Orders
phase_as phases.Removed = Jobs.Removed
phase_as phases.Denied = Jobs.Denied
phase_as (phases.Late time) = Jobs.Late time
phase_as (phases.Ends why) = Jobs.Ends (outcome_as why)

-- what a drop's step doesn't read
pub record Rest : Type 0 where
  pub content : List ℕ → Option ℕ
  pub filled : List ℕ → Bool
  pub fills : Bool
  pub causes : List SourceFailure
  pub count : ℕ
  pub at_hand : List FrameView
  pub room : EndName → Bool
  pub part : ℕ
  pub right : Bool

abbrev pub work_of : Rest → Worker → Work
work_of rest w =
    record {
      number = w.number;
      slot = w.slot;
      what = w.job;
      part = Drops;
      phase = phase_as w.phase;
      fills = rest.fills;
      version = w.version;
      heard = map (λ x. (x.0, heard_as x.1)) w.heard;
      causes = rest.causes;
    }

-- the version that the job's peer answered
abbrev pub with_version : Worker → ℕ → ℕ → Worker
with_version w peer n = record w { version = (if option_is w.job.peer peer then n else w.version) }

-- the newest that was heard of a repository, and the word beside a refused look
abbrev pub newest_of : List (ℕ × Heard) → ℕ → Option Heard
newest_of heard peer = option_map (λ (x : ℕ × Heard). x.1) (find (λ x. x.0 == peer) heard)

abbrev pub word_in : Option Heard → Option Word
word_in (Some (heards.Unseen word)) = word
word_in _ = None

-- the target of a remote drop
abbrev pub is_target : Side → Option ℕ → ℕ → Bool
is_target Remote peer c = option_is peer c
is_target Local peer c = false

-- the words that it was told: the target's beside its answer to an order
abbrev pub words_of : Worker → ℕ → Option Word
words_of w c = if is_target (drop_side w.job.kind w.job.peer) w.job.peer c then w.word else word_in (newest_of w.heard c)

-- ---- the turn

-- what a step is given
pub record Sight : Type 0 where
  pub read : Reading
  pub ends : EndName → End
  pub time : ℕ
  pub number : ℕ

abbrev pub sight : Reading → (EndName → End) → ℕ → ℕ → Sight
sight read ends time number = record { read = read; ends = ends; time = time; number = number }

abbrev pub look_in : Sight → Option Call → Rest → Worker → Look
look_in x fails rest w =
    record { time = x.time; count = rest.count; at_hand = rest.at_hand; room = rest.room; fails = fails; part = rest.part; right = rest.right; words = words_of w }

-- the keys whose contents are there
abbrev pub present_in : Contents → List ℕ → Bool
present_in contents key = is_some (contents key)

-- what the job's step reads, of these rows and contents
abbrev pub turn_in : Sight → Rows → (List ℕ → Bool) → Option Call → Rest → Worker → Turn
turn_in x rows present fails rest w =
    record {
      read = x.read;
      clock = x.read.clock;
      number = x.number;
      present = present;
      bar = bar_at rows;
      content = rest.content;
      holds = rows.holds;
      filled = rest.filled;
      ends = x.ends;
      look = look_in x fails rest w;
      w = work_of rest w;
    }

-- ---- what is sent and taken

abbrev pub texts_of : ParcelBody → List FrameText
texts_of bodies.Open = Opening ∷ []
texts_of bodies.Close = Closing ∷ []
texts_of (bodies.Message m) = Line (text_of m) ∷ []
texts_of (bodies.Last m) = Line (text_of m) ∷ Closing ∷ []

abbrev pub end_in : ℕ → ℕ → EndName
end_in slot peer = record { peer = peer; slot = slot; client = true }

-- the frames of parcels, at the ends of this slot
abbrev pub frames_of : (EndName → End) → ℕ → List Parcel → List FrameView
frames_of ends slot ps = flat_map (λ p. frames (end_in slot p.peer) (ends (end_in slot p.peer)) (texts_of p.body)) ps

abbrev pub made_of : Sight → Worker → Option FrameView → Output → Effect
made_of x w taken out = record { kind = out.kind; taken = taken; sent = frames_of x.ends w.slot out.sends.items; lines = []; calls = [] }

abbrev pub taken_line : Option Message → Taken
taken_line None = takens.Other
taken_line (Some m) = takens.Message m

-- what a worker is told of a frame
abbrev pub taken_of : FrameText → Taken
taken_of Opening = takens.Other
taken_of Closing = takens.Closed
taken_of (Bytes n) = takens.Other
taken_of (Line text) = taken_line (message_of text)

-- ---- the end

abbrev pub heard_in : List (ℕ × Heard) → ℕ → Option Jobs.Heard
heard_in heard peer = option_map (λ (x : ℕ × Jobs.Heard). x.1) (find (λ x. x.0 == peer) (map (λ (x : ℕ × Heard). (x.0, heard_as x.1)) heard))

abbrev pub is_lock : Option Heard → Bool
is_lock (Some (heards.Held since)) = true
is_lock _ = false

-- what is sent to a peer at the end
abbrev pub end_frames : Worker → Bool → ℕ → Bool → List FrameText
end_frames w lost peer false = []
end_frames w lost peer true = (if is_held (heard_in w.heard peer) && not lost then Line (text_of (UnlockContent w.job.key)) ∷ [] else []) ++ Closing ∷ []

abbrev pub parting_at : (EndName → End) → Worker → Bool → ℕ → List FrameView
parting_at ends w lost peer = frames (end_in w.slot peer) (ends (end_in w.slot peer)) (end_frames w lost peer (ends (end_in w.slot peer)).opened)

abbrev pub partings : Reading → (EndName → End) → Worker → Bool → List FrameView
partings read ends w lost = flat_map (parting_at ends w lost) (but read.repo (range_with_len 0 read.count))
