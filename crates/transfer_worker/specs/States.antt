-- A state of a repository, and a look, that are what a transfer, a table and a store are (own).
use Rattle.std.specs.Prelude.{◌≡◌, ℕ, Bool, true, false, List, length, Option, Some, None}
use Rattle.std.specs.List.{list_all}
use Rattle.std.specs.Option.{option_map}
use Rattle.annex_base.specs.declared.kinds.Call.{Call}
use Rattle.run_data.specs.declared.entry.FrameView.{FrameView}
use Rattle.object_store.specs.Stores.{Contents}
use Rattle.node_model.specs.Around.{around}
use Rattle.node_model.specs.Jobs.{Work, partner, work_after}
use Rattle.node_model.specs.JobStep.{Turn, end_with, turn_of}
use Rattle.node_model.specs.Jobs.{job_end}
use Rattle.node_model.specs.Look.{Look, as_told, entry_of, waiting_frame}
use Rattle.node_model.specs.SessionStep.{is_filled}
use Rattle.node_model.specs.SetUp.{SetUp}
use Rattle.node_model.specs.State.{State}
use Rattle.node_model.specs.Turns.{has_room, needs, slot_step}
use Rattle.content_lock.specs.Rows.{Rows, bar_at, is_filling}
use Rattle.session_state.specs.declared.incoming.Incoming.{Incoming}
use Rattle.session_state.specs.Answers.{is_in, size_in}
use Rattle.transfer_turns.specs.declared.parcels.Output.{Output}
use Rattle.transfer_turns.specs.Steps.{is_end}
use Rattle.transfer_turns.specs.Turns.{Comes, Sight, awaited, made_of}

-- the table and the store have the rows and contents of this state
pub record HaveState (rows : Rows) (contents : Contents) (s : SetUp) (st : State) : Type 0 where
  pub present : (key : List ℕ) → is_in contents key ≡ st.present key
  pub sizes : (key : List ℕ) → size_in contents key ≡ st.content key
  pub bar : (key : List ℕ) → bar_at rows key ≡ st.bar key
  pub holds : rows.holds ≡ st.holds
  pub filled : (key : List ℕ) → is_filling rows key ≡ is_filled s st key

-- the sight is that of the repository
pub record IsSight (x : Sight) (s : SetUp) (st : State) : Type 0 where
  pub repo : x.repo ≡ s.number
  pub count : x.count ≡ length s.repos
  pub ends : x.ends ≡ st.ends

-- a job that goes on finds room at the ends on which it may send; one that sends bytes does so unless its connection is closed
abbrev pub HasWay : Turn → Option ℕ → Type 0
HasWay t None = list_all (has_room t) (needs t t.w.phase) ≡ true
HasWay t (Some peer) = (end_with t peer).opened ≡ true → list_all (has_room t) (needs t t.w.phase) ≡ true

-- what a turn finds of a job that awaits a frame of this peer, or none: room; a connection that was closed here; a frame and room
abbrev pub FindsAt : Turn → Option ℕ → Option FrameView → Type 0
FindsAt t None f = HasWay t (partner t.w.what.peer t.w.phase)
FindsAt t (Some peer) None = (end_with t peer).opened ≡ false
FindsAt t (Some peer) (Some f) = (waiting_frame (end_with t peer) t.look (job_end t.w peer) ≡ Some f) × (has_room t peer ≡ true)

-- what the repository is as the job looks: its state, the look, and the frame that the step takes; the part is as this sees it
pub record Sees (x : Sight) (rows : Rows) (contents : Contents) (v : Work) (i : Option Incoming) (fails : Option Call) (sees : ℕ → Bool → Type 0) (s : SetUp) (st : State) (k : Look) (f : Option FrameView) : Type 0 where
  pub sight : IsSight x s st
  pub keeps : HaveState rows contents s st
  pub failing : k.fails ≡ fails
  pub part : sees k.part k.right
  pub finds : FindsAt (turn_of s st k v) (awaited v) f
  pub comes : Comes x v.slot (awaited v) f i

-- the step is that of the job's slot, as its entry tells it, and the job's work after the entry is this
pub record StepsSo (x : Sight) (v v' : Work) (out : Output) (s : SetUp) (st : State) (k : Look) (f : Option FrameView) : Type 0 where
  pub made : option_map as_told (slot_step s st k (Some v)) ≡ Some (made_of x v.slot f out)
  pub next : is_end out.kind ≡ false → v' ≡ work_after (around s st) s.number (entry_of s.number k (made_of x v.slot f out)) v
