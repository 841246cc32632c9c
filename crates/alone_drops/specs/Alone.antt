-- A drop that ran alone: what stood as it began, and what came until it ended (own).
use Rattle.std.specs.Prelude.{◌≡◌, ◌≢◌, ℕ, ◌<◌, Bool, true, false, List, [], length, slice_get, Some, None}
use Rattle.annex_base.specs.Lists.{Member}
use Rattle.run_data.specs.declared.entry.By.TheVariants.{Script}
use Rattle.run_data.specs.declared.entry.Entry.{Entry}
use Rattle.run_data.specs.declared.entry.EntryKind.{EntryKind}
use Rattle.run_data.specs.declared.entry.FrameView.{FrameView}
use Rattle.run_data.specs.declared.entry.EntryKind.TheVariants.{Begin, Gain, Log, Compact, Close, Crash, Wait, Fault, End}
use Rattle.run_data.specs.declared.job.Job.{Job}
use Rattle.run_data.specs.declared.job.JobKind.TheVariants as kinds
use Rattle.run_data.specs.declared.job.Outcome.{Outcome}
use Rattle.run_data.specs.declared.job.Outcome.TheVariants.{Dropped, DroppedAbsent}
use Rattle.run_data.specs.declared.run.Run.{Run}
use Rattle.run_data.specs.Repos.{id_of}
use Rattle.node_model.specs.Ends.{EndName, may_take, takes_at}
use Rattle.node_model.specs.Look.{Look}
use Rattle.node_model.specs.Rows.{is_blocked}
use Rattle.node_model.specs.Step.{step}
use Rattle.wanted_expr.specs.Wanted.{required}
use Rattle.run_model.specs.Frames.{MayTake, way_of}
use Rattle.run_model.specs.Past.{bar, clock, holds, is_of, jobs}
use Rattle.run_model.specs.Run.{job_paths, set_up}
use Rattle.run_model.specs.Logs.{settings_of}
use Rattle.run_model.specs.Safety.{past_at}
use Rattle.run_model.specs.States.{end_at, owes, state_of}

-- a frame that the end of r may take now
pub record IsAtEnd (past : List Entry) (r : ℕ) (n : EndName) (f : FrameView) : Type 0 where
  pub next : MayTake past (way_of r f) f
  pub of_end : takes_at n f ≡ true
  pub may : may_take (end_at past r n) f ≡ true

-- all frames are at hand, and there is room at every end
pub record FindsAll (past : List Entry) (r : ℕ) (k : Look) : Type 0 where
  pub frames : (n : EndName) (f : FrameView) → IsAtEnd past r n f → Member f k.at_hand
  pub room : (n : EndName) → k.room n ≡ true

-- no repository has a step with all frames at hand
abbrev pub IsAtRest : Run → List Entry → Type 0
IsAtRest run past = (r : ℕ) → r < length run.repos
    → (k : Look) × FindsAll past r k × (step (set_up run r) (state_of (set_up run r) past) k ≡ None)

-- no job begins by it, and it is no close, crash, wait, fault or script's step
abbrev pub is_undisturbing : EntryKind → Bool
is_undisturbing (Begin job what) = false
is_undisturbing (Close peer slot client) = false
is_undisturbing (Crash clock) = false
is_undisturbing (Wait ms) = false
is_undisturbing (Fault call by) = false
is_undisturbing (Gain Script size key) = false
is_undisturbing (Compact file) = false
is_undisturbing kind = true

-- what comes while a drop runs alone; a line is added only where one is owed
pub record IsUndisturbing (run : Run) (past : List Entry) (e : Entry) : Type 0 where
  pub kind : is_undisturbing e.kind ≡ true
  pub owed : (r : ℕ) (file : _) → is_of r e ≡ true → e.kind ≡ Log file → owes run.repos past r ≢ []

-- the job j of a, a drop, began at one place, and ended so at another
pub record RanAlone (run : Run) (first last a j : ℕ) (what : Job) (outcome : Outcome) : Type 0 where
  pub begin : Entry
  pub begin_at : slice_get run.entries first ≡ Some begin
  pub begin_by : is_of a begin ≡ true
  pub begin_is : begin.kind ≡ Begin j what
  pub drops : what.kind ≡ kinds.Drop
  pub end : Entry
  pub end_at : slice_get run.entries last ≡ Some end
  pub end_by : is_of a end ≡ true
  pub end_is : end.kind ≡ End j outcome
  pub later : first < last
  pub idle : (r : ℕ) → jobs (past_at run first) r ≡ []
  pub rest : IsAtRest run (past_at run first)
  pub alone : (place : ℕ) (e : Entry) → first < place → place < last → slice_get run.entries place ≡ Some e
      → IsUndisturbing run (past_at run place) e

abbrev pub is_done : Outcome → Bool
is_done (Dropped proof) = true
is_done (DroppedAbsent proof) = true
is_done outcome = false

-- the row of the target lets the content go, at this time, and no expression requires it there
pub record MayGo (run : Run) (past : List Entry) (time a j target : ℕ) (key : List ℕ) : Type 0 where
  pub free : bar past target key ≡ None
  pub unheld : is_blocked (holds past target) key (clock run.repos past target time) ≡ false
  pub unrequired : required (settings_of past a) (id_of run.repos target) key (job_paths run a j) ≡ None
