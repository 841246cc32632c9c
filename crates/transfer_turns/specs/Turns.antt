-- The turn of a transfer, and what comes in it (own).
use Rattle.std.specs.Prelude.{◌≡◌, ℕ, ◌==◌, Bool, true, false, if◌then◌else◌, List, [], ◌∷◌, flat_map, Option, Some, None}
use Rattle.std.specs.List.{range_with_len}
use Rattle.annex_base.specs.declared.kinds.Call.{Call}
use Rattle.run_data.specs.declared.entry.EntryKind.{EntryKind}
use Rattle.run_data.specs.declared.entry.FrameText.TheVariants.{Closing}
use Rattle.run_data.specs.declared.entry.FrameView.{FrameView}
use Rattle.object_store.specs.Stores.{Contents}
use Rattle.node_model.specs.Ends.{EndName, End, frames, takes_at}
use Rattle.node_model.specs.Evidence.{but}
use Rattle.node_model.specs.Jobs.{Work, partner}
use Rattle.node_model.specs.JobStep.{Turn, end_with, quietly, talk}
use Rattle.node_model.specs.Look.{Effect}
use Rattle.node_model.specs.Turns.{goes, is_awaiting, takes_frame}
use Rattle.content_lock.specs.Rows.{Rows, bar_at, is_filling}
use Rattle.session_state.specs.declared.incoming.Incoming.{Incoming}
use Rattle.session_state.specs.Answers.{is_in, size_in}
use Rattle.session_state.specs.Talking.{Brings}
use Rattle.transfer_turns.specs.declared.parcels.Output.{Output}
use Rattle.transfer_turns.specs.declared.parcels.Parcel.{Parcel}
use Rattle.transfer_turns.specs.Parcels.{AreNoPieces, end_in, frames_of}

-- which of how many repositories it is, and how its ends stand
pub record Sight : Type 0 where
  pub repo : ℕ
  pub count : ℕ
  pub ends : EndName → End

-- the turn of this work: what a transfer's step reads of its repository, and any turn for the rest. The part has this size, and
-- is right or isn't
abbrev pub turn_in : Sight → Rows → Contents → ℕ → Bool → Option Call → Turn → Work → Turn
turn_in x rows c part right fails rest v =
    record {
      read = record rest.read { repo = x.repo; count = x.count };
      clock = rest.clock;
      number = rest.number;
      present = is_in c;
      bar = bar_at rows;
      content = size_in c;
      holds = rows.holds;
      filled = is_filling rows;
      ends = x.ends;
      look = record rest.look { fails = fails; part = part; right = right };
      w = v;
    }

-- a step makes an entry of this kind, and sends this with it
abbrev pub output_of : EntryKind → List Parcel → Bool → Output
output_of kind ps ended = record { kind = kind; sends = record { items = ps }; ended = ended }

-- the entry of a step, and what is sent with it
abbrev pub made_of : Sight → ℕ → Option FrameView → Output → Effect
made_of x slot taken out = record { kind = out.kind; taken = taken; sent = frames_of x.ends slot out.sends.items; lines = []; calls = [] }

-- what is sent at the end: each open connection is closed
abbrev pub parting_at : Sight → ℕ → ℕ → List FrameView
parting_at x slot peer = frames (end_in slot peer) (x.ends (end_in slot peer)) (if (x.ends (end_in slot peer)).opened then Closing ∷ [] else [])

abbrev pub partings_at : Sight → ℕ → List FrameView
partings_at x slot = flat_map (parting_at x slot) (but x.repo (range_with_len 0 x.count))

-- by these parcels, none of which is a piece of a content
pub record ArePartings (x : Sight) (slot : ℕ) (ps : List Parcel) : Type 0 where
  pub frames : frames_of x.ends slot ps ≡ partings_at x slot
  pub pieces : AreNoPieces ps

-- ---- what comes

-- a frame that brings this comes on an open connection with the peer; or none, since the connection was closed here
abbrev pub ComesFrom : Sight → ℕ → ℕ → Option FrameView → Option Incoming → Type 0
ComesFrom x slot peer (Some f) (Some i) = (takes_at (end_in slot peer) f ≡ true) × ((x.ends (end_in slot peer)).opened ≡ true) × ((x.repo == peer) ≡ false) × Brings f.body i
ComesFrom x slot peer None None = ((x.repo == peer) ≡ false) × ((x.ends (end_in slot peer)).opened ≡ false)
ComesFrom x slot peer f i = ⊥

-- the peer whose frame the job awaits, if it awaits one
abbrev pub awaited : Work → Option ℕ
awaited v = if is_awaiting v.phase then partner v.what.peer v.phase else None

-- what a job is told that awaits a frame of this peer, or none
abbrev pub Comes : Sight → ℕ → Option ℕ → Option FrameView → Option Incoming → Type 0
Comes x slot None f i = (f ≡ None) × (i ≡ None)
Comes x slot (Some peer) f i = ComesFrom x slot peer f i

-- ---- the step

-- a job that sends bytes on a connection finds it closed, or goes on
abbrev pub goes_on_with : Turn → Option ℕ → Effect
goes_on_with t None = goes t t.w.phase
goes_on_with t (Some peer) = if (end_with t peer).opened then goes t t.w.phase else quietly (talk t) None

-- the step of a job that awaits a frame of this peer, or none, with the frame that it takes
abbrev pub step_at : Option ℕ → Option FrameView → Turn → Effect
step_at None f t = goes_on_with t (partner t.w.what.peer t.w.phase)
step_at (Some peer) None t = quietly (talk t) None
step_at (Some peer) (Some f) t = takes_frame t peer f f.body
