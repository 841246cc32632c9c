-- The step of the first job that has one (own).
use Rattle.std.specs.Prelude.{◌≡◌, ℕ, ◌+◌, ◌*◌, true, false, List, [], length, Bool, Option, Some, None}
use Rattle.std.specs.List.{list_all}
use Rattle.std.specs.Option.{ForSome, option_map}
use Rattle.annex_base.specs.Lists.{Each}
use Rattle.annex_base.specs.Settings.{Settings}
use Rattle.annex_base.specs.declared.kinds.Call.{Call}
use Rattle.run_data.specs.declared.entry.FrameView.{FrameView}
use Rattle.object_store.specs.Stores.{Parts}
use Rattle.link_ring.specs.Ends.{EndView}
use Rattle.node_ends.specs.Ends.{SeesEnds, end_at}
use Rattle.node_model.specs.Clocks.{ClockSet, runs_on}
use Rattle.node_model.specs.Ends.{EndName}
use Rattle.node_model.specs.Evidence as evidence
use Rattle.node_model.specs.Evidence.{standing_by}
use Rattle.node_model.specs.Jobs.{AsksTime}
use Rattle.node_model.specs.JobStep.{locked_peers, turn_of}
use Rattle.node_model.specs.Look.{Look, Effect, as_told, entry_of, failed_in}
use Rattle.node_model.specs.SetUp.{SetUp}
use Rattle.node_model.specs.State.{State}
use Rattle.node_model.specs.Turns.{has_room, job_step}
use Rattle.session_state.specs.Talking.{Brings}
use Rattle.drop_phases.specs.Begun.{IsLast}
use Rattle.node_tasks.specs.Places.{IsPlace}
use Rattle.node_tasks.specs.Waiting.{taken_by}
use Rattle.node_tasks.specs.Workers.{SeesPart}
use Rattle.node_tasks.specs.declared.acted.Output.{Output}
use Rattle.node_tasks.specs.declared.task.Task.{Task}
use Rattle.node_tasks.specs.declared.task.Task.TheVariants as tasks
use Rattle.node_tasks.specs.Acting.{IsOnward, frames_in}
use Rattle.node_tasks.specs.Tasks.{work_now}
use Rattle.running_jobs.specs.declared.acted.Acted.{Acted}
use Rattle.running_jobs.specs.Running.{AreWorks, Follows, HadPathsOf, Jobs, job_at, words_at}

-- ---- what a step makes

abbrev pub output_of : Acted → Output
output_of a = record { kind = a.kind; sent = a.sent; ended = a.ended }

-- the entry is one that this job makes: its last, or one of its others
abbrev pub IsKindOf : ℕ → Acted → Type 0
IsKindOf job a = (a.ended ≡ false → IsOnward job a.kind) × (a.ended ≡ true → IsLast job a.kind)

abbrev pub made_by : List EndView → Acted → Effect
made_by links a = record { kind = a.kind; taken = taken_by links a.slot a.takes; sent = frames_in links a.slot a.sent; lines = []; calls = [] }

-- the call that failed, as the entry tells it
abbrev pub failed_by : Option Acted → Option Call
failed_by None = None
failed_by (Some a) = failed_in a.kind

-- ---- the part that a step asks for

-- how a look sees the part of a transfer that this frame came to
abbrev pub SeesPartAt : Option Parts → Task → Option FrameView → ℕ → Bool → Type 0
SeesPartAt known (tasks.Drops j) f part right = Unit {0}
SeesPartAt known (tasks.Transfers w) None part right = SeesPart known w None part right
SeesPartAt known (tasks.Transfers w) (Some f) part right = (i : _) → Brings f.body i → SeesPart known w (Some i) part right

-- where the acting job asks for a part, the store's has this size, and matches its key or doesn't
abbrev pub IsPartAsked : Option Parts → Jobs → List EndView → Acted → ℕ → Bool → Type 0
IsPartAsked known jobs links a part right = ForSome (job_at jobs.running a.job) (λ t. SeesPartAt known t (taken_by links a.slot a.takes) part right)

-- there is an answer to what it asks
pub record HasPart (known : Option Parts) (jobs : Jobs) (links : List EndView) (a : Acted) : Type 0 where
  pub part : ℕ
  pub right : Bool
  pub asked : IsPartAsked known jobs links a part right

-- ---- what its jobs see of a repository

pub record SeesJobs (links : List EndView) (clock : ClockSet) (settings : Settings) (jobs : Jobs) (number time : ℕ) (s : SetUp) (st : State) (k : Look) : Type 0 where
  pub place : IsPlace jobs.place s
  pub works : AreWorks s st jobs
  pub paths : Each (HadPathsOf s) jobs.running
  pub count : length links ≡ length s.repos * 8
  pub ends : (a : EndName) → st.ends a ≡ end_at links a
  pub sees : SeesEnds links s k
  pub logs : st.logs ≡ settings
  pub nameless : (key : List ℕ) → standing_by settings key [] ≡ evidence.Asked  -- there is no repository without an identifier
  pub ticks : st.clock ≡ runs_on clock
  pub counts : number ≡ st.made + 1
  pub at : time ≡ k.time

-- the store call that fails, the words that the acting job heard, and the part that it asks for
pub record SeesActedOf (known : Option Parts) (links : List EndView) (jobs : Jobs) (k : Look) (a : Acted) : Type 0 where
  pub fails : k.fails ≡ failed_in a.kind
  pub words : words_at jobs.running a.job ≡ k.words
  pub part : IsPartAsked known jobs links a k.part k.right

abbrev pub SeesActed : Option Parts → List EndView → Jobs → Look → Option Acted → Type 0
SeesActed known links jobs k o = ForSome o (SeesActedOf known links jobs k)

-- while a drop awaits its target's timestamp, there is room at the open ends on which it has locks, since the step that takes the timestamp may
-- give the locks back
abbrev pub HasLockRoom : SetUp → State → Look → Task → Type 0
HasLockRoom s st k (tasks.Drops j) =
    (work_now (tasks.Drops j)).phase ≡ AsksTime → list_all (has_room (turn_of s st k (work_now (tasks.Drops j)))) (locked_peers (turn_of s st k (work_now (tasks.Drops j)))) ≡ true
HasLockRoom s st k (tasks.Transfers w) = Unit {0}

-- ---- what follows

-- the jobs after a step are the works of each state that follows by its entry
abbrev pub WorksAfter : SetUp → State → Look → List EndView → Jobs → Jobs → Option Acted → Type 0
WorksAfter s st k links was now None = now ≡ was
WorksAfter s st k links was now (Some a) = (st' : State) → Follows s st (entry_of s.number k (made_by links a)) st' → AreWorks s st' now

pub record StepsJobs (s : SetUp) (st : State) (k : Look) (links : List EndView) (was now : Jobs) (a : Option Acted) : Type 0 where
  pub made : option_map as_told (job_step s st k) ≡ option_map (made_by links) a
  pub works : WorksAfter s st k links was now a
