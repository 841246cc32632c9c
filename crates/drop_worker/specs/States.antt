-- A state of a repository, and a job's work, that are what a worker, a table and a store are (own).
use Rattle.std.specs.Prelude.{◌≡◌, ℕ, ◌+◌, false, List, Option, Some, is_some}
use Rattle.std.specs.Option.{option_map}
use Rattle.object_store.specs.Stores.{Contents}
use Rattle.node_model.specs.Around.{around}
use Rattle.node_model.specs.SetUp.{SetUp}
use Rattle.node_model.specs.Jobs.{Work}
use Rattle.run_data.specs.declared.entry.FrameView.{FrameView}
use Rattle.annex_base.specs.declared.kinds.Call.{Call}
use Rattle.node_model.specs.Jobs.{partner, work_after}
use Rattle.node_model.specs.JobStep.{turn_of}
use Rattle.node_model.specs.Turns.{slot_step}
use Rattle.node_model.specs.Knows.{reading}
use Rattle.node_model.specs.Look.{Look, as_told, entry_of}
use Rattle.node_model.specs.SessionStep.{is_filled}
use Rattle.node_model.specs.State.{State}
use Rattle.content_lock.specs.Rows.{Rows, bar_at}
use Rattle.drop_phases.specs.Worker.{Worker}
use Rattle.drop_phases.specs.declared.turn.Output.{Output}
use Rattle.drop_phases.specs.declared.turn.Taken.{Taken}
use Rattle.drop_phases.specs.Working.{Rest, Sight, made_of, phase_as, words_of, work_of}
use Rattle.drop_phases.specs.Feeding.{FeedsFrameAt, FindsAt}

-- the table and the store have the rows and contents of this state
pub record HaveState (rows : Rows) (contents : Contents) (st : State) : Type 0 where
  pub present : (key : List ℕ) → is_some (contents key) ≡ st.present key
  pub bar : (key : List ℕ) → bar_at rows key ≡ st.bar key
  pub holds : rows.holds ≡ st.holds

abbrev pub rest_of : SetUp → State → Look → Work → Rest
rest_of s st k v = record { content = st.content; filled = is_filled s st; fills = v.fills; causes = v.causes; count = k.count; at_hand = k.at_hand; room = k.room; part = k.part; right = k.right }

-- the sight is that of the repository at this look, and the work is the worker's
pub record IsSight (x : Sight) (s : SetUp) (st : State) (k : Look) (w : Worker) (v : Work) : Type 0 where
  pub work : work_of (rest_of s st k v) w ≡ v
  pub read : x.read ≡ reading s st v
  pub number : x.number ≡ st.made + 1
  pub ends : x.ends ≡ st.ends
  pub time : x.time ≡ k.time
  pub words : words_of w ≡ k.words

-- what the repository is as the worker looks: its state, the look, the job's work, and the frame that the step takes
pub record Sees (x : Sight) (rows : Rows) (contents : Contents) (w : Worker) (taken : Taken) (fails : Option Call) (s : SetUp) (st : State) (k : Look) (v : Work) (f : Option FrameView) : Type 0 where
  pub sight : IsSight x s st k w v
  pub keeps : HaveState rows contents st
  pub failing : k.fails ≡ fails
  pub finds : FindsAt (turn_of s st k v) (partner w.job.peer (phase_as w.phase)) f
  pub fed : FeedsFrameAt x w.slot (partner w.job.peer (phase_as w.phase)) f taken

-- the step is that of the job's slot, as its entry tells it, and the worker after it is the job's work after the entry
pub record StepsSo (x : Sight) (w w' : Worker) (out : Output) (s : SetUp) (st : State) (k : Look) (v : Work) (f : Option FrameView) : Type 0 where
  pub made : option_map as_told (slot_step s st k (Some v)) ≡ Some (made_of x w f out)
  pub next : out.ended ≡ false → work_of (rest_of s st k v) w' ≡ work_after (around s st) s.number (entry_of s.number k (made_of x w f out)) v
