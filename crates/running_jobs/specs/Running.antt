-- The running jobs of a repository, drops and transfers alike, and the works of a state that they are (own).
use Rattle.std.specs.Prelude.{◌≡◌, ◌≢◌, ℕ, ◌≤◌, ◌<◌, ◌==◌, ◌&&◌, ◌||◌, Bool, false, List, [], ◌∷◌, find, map, Option, Some, None}
use Rattle.std.specs.List.{list_any}
use Rattle.std.specs.Option.{option_map_or}
use Rattle.annex_base.specs.Lists.{Each}
use Rattle.annex_base.specs.declared.kinds.Word.{Word}
use Rattle.run_data.specs.declared.entry.Entry.{Entry}
use Rattle.object_store.specs.Stores.{Parts}
use Rattle.node_model.specs.After.{read_after}
use Rattle.node_model.specs.Jobs.{works_after}
use Rattle.node_model.specs.SetUp.{SetUp}
use Rattle.node_model.specs.Slots.{begun_after}
use Rattle.node_model.specs.State.{State}
use Rattle.content_lock.specs.Rows.{Rows, is_filling}
use Rattle.drop_phases.specs.declared.phase.Token.TheVariants as tokens
use Rattle.drop_phases.specs.Doing.{HasToken}
use Rattle.drop_phases.specs.Working.{words_of}
use Rattle.node_tasks.specs.Drops.{HadPaths, given}
use Rattle.node_tasks.specs.Places.{PlaceView}
use Rattle.node_tasks.specs.Workers.{work_of}
use Rattle.transfer_turns.specs.Steps.{fills_key}
use Rattle.node_tasks.specs.declared.task.Task.{Task}
use Rattle.node_tasks.specs.declared.task.Task.TheVariants as tasks
use Rattle.node_tasks.specs.Tasks.{HasReadOf, IsFedTask, IsTask, OwnsOf, number_of, slot_of, work_now}

-- the running jobs, the newest first, and how many were begun
pub record Jobs : Type 0 where
  pub place : PlaceView
  pub running : List Task
  pub begun : ℕ

-- ---- one of them

-- the running job of this number
abbrev pub job_at : List Task → ℕ → Option Task
job_at ts job = find (λ t. number_of t == job) ts

-- the words that a drop heard beside its peers' answers; a transfer hears none
abbrev pub words_of_task : Task → ℕ → Option Word
words_of_task (tasks.Drops j) = words_of j.worker
words_of_task (tasks.Transfers w) = λ c. None

abbrev pub words_at : List Task → ℕ → ℕ → Option Word
words_at ts job = option_map_or words_of_task (job_at ts job) (λ c. None)

-- ---- the paths of a job's key

-- the paths in the tree that it was given for its key
abbrev pub paths_of : Task → Option (List (List ℕ))
paths_of (tasks.Drops j) = Some j.paths
paths_of (tasks.Transfers w) = Some w.paths

-- its number, and these
abbrev pub given_of : Task → ℕ × Option (List (List ℕ))
given_of t = (number_of t, paths_of t)

-- its key had these as it began
abbrev pub HadPathsOf : SetUp → Task → Type 0
HadPathsOf s (tasks.Drops j) = HadPaths s j.worker.number j.paths
HadPathsOf s (tasks.Transfers w) = HadPaths s (work_of w).number w.paths

-- the set-up where the keys of all jobs had the paths that this one was given
abbrev pub given_to : SetUp → Task → SetUp
given_to s (tasks.Drops j) = given s j.paths
given_to s (tasks.Transfers w) = given s w.paths

-- ---- the works

-- the state's works are these jobs, each with what it has read for the paths that it was given
pub record AreWorks (s : SetUp) (st : State) (jobs : Jobs) : Type 0 where
  pub works : st.works ≡ map work_now jobs.running
  pub begun : st.begun ≡ jobs.begun
  pub read : Each (λ t. HasReadOf (given_to s t) st t) jobs.running

-- ---- what they have of the table

-- it was begun, and has what is its of the table
pub record IsOwn (begun : ℕ) (rows : Rows) (t : Task) : Type 0 where
  pub number : number_of t ≤ begun
  pub owns : OwnsOf rows t

-- two jobs have their own numbers and slots, and don't fill one key
pub record AreApart (t other : Task) : Type 0 where
  pub number : number_of t ≢ number_of other
  pub slot : slot_of t ≢ slot_of other
  pub fills : (key : List ℕ) → (fills_key (work_now t) key && fills_key (work_now other) key) ≡ false

abbrev pub AllApart : List Task → Type 0
AllApart [] = Unit {0}
AllApart (t ∷ ts) = Each (AreApart t) ts × AllApart ts

-- each job has what it has of the table, and none that is still to begin has anything
pub record OwnAll (jobs : Jobs) (rows : Rows) : Type 0 where
  pub tasks : Each (IsTask jobs.place) jobs.running
  pub owns : Each (IsOwn jobs.begun rows) jobs.running
  pub apart : AllApart jobs.running
  pub later : (job : ℕ) (key : List ℕ) → jobs.begun < job → HasToken job key tokens.Nothing rows

-- ---- the keys that they fill

-- one of them fills the key
abbrev pub fills_at : List Task → List ℕ → Bool
fills_at ts key = list_any (λ t. fills_key (work_now t) key) ts

-- the table fills the keys that one of them fills, and these other keys
pub record AreFilled (rows : Rows) (ts : List Task) (others : List ℕ → Bool) : Type 0 where
  pub filled : (key : List ℕ) → is_filling rows key ≡ (fills_at ts key || others key)
  pub apart : (key : List ℕ) → (fills_at ts key && others key) ≡ false

-- what each has taken of its part is the store's part
abbrev pub AreAllFed : Parts → List Task → Type 0
AreAllFed q ts = Each (IsFedTask q) ts

-- ---- what follows an entry

-- a state that follows this one by an entry that adds no line
pub record Follows (s : SetUp) (st : State) (e : Entry) (st' : State) : Type 0 where
  pub works : st'.works ≡ works_after (record { present = st.present; bar = st.bar; ends = st.ends }) s.number st.works e e.kind
  pub begun : st'.begun ≡ begun_after st.begun e.kind
  pub logs : st'.logs ≡ st.logs
  pub read : (job : ℕ) → st'.read job ≡ read_after st.logs (st.read job) (find (λ w. w.number == job) st.works)
