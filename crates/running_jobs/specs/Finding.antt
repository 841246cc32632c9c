-- Which job has the step; for private contracts (own).
use Rattle.std.specs.Prelude.{◌≡◌, ℕ, ◌<◌, ◌==◌, Bool, List, length, find, map, slice_get, Option, Some, None}
use Rattle.std.specs.Option.{ForSome}
use Rattle.annex_base.specs.Lists.{Each}
use Rattle.link_ring.specs.Ends.{EndView}
use Rattle.object_store.specs.Stores.{Contents}
use Rattle.node_model.specs.Clocks.{ClockSet}
use Rattle.node_model.specs.Look.{Look}
use Rattle.node_model.specs.SetUp.{SetUp}
use Rattle.node_model.specs.State.{State}
use Rattle.node_model.specs.Turns.{slot_step}
use Rattle.content_lock.specs.Rows.{Rows}
use Rattle.node_tasks.specs.Places.{PlaceView}
use Rattle.node_tasks.specs.Waiting.{WaitsFor}
use Rattle.node_tasks.specs.States.{HaveState}
use Rattle.node_tasks.specs.declared.readiness.Told.{Told}
use Rattle.node_tasks.specs.declared.task.Task.{Task}
use Rattle.node_tasks.specs.Tasks.{SeesTask, slot_of, work_now}
use Rattle.node_tasks.specs.Telling.{IsReady, IsToldTo, takes_in}
use Rattle.running_jobs.specs.declared.finding.Found.{Found}

abbrev pub has_slot : ℕ → Task → Bool
has_slot slot t = slot_of t == slot

-- no job in the slot has a step
abbrev pub IsSlotIdle : PlaceView → ClockSet → List EndView → List Task → ℕ → ℕ → Type 0
IsSlotIdle p clock links jobs time slot = (rows : Rows) (c : Contents) (s : SetUp) (st : State) (k : Look) → Each (SeesTask p clock links time s st k) jobs → HaveState rows c s st
    → slot_step s st k (find (λ w. w.slot == slot) (map work_now jobs)) ≡ None

-- the job of the slot is this, and has a step
pub record IsOfSlot (p : PlaceView) (clock : ClockSet) (links : List EndView) (jobs : List Task) (time slot : ℕ) (x : Told) (t : Task) : Type 0 where
  pub in_slot : slot_of t ≡ slot
  pub found : find (has_slot slot) jobs ≡ Some t
  pub ready : IsReady p clock links time t x
  pub told : IsToldTo links t x
  pub waits : WaitsFor links (slot_of t) (takes_in x)

pub record IsAtSlot (p : PlaceView) (clock : ClockSet) (links : List EndView) (jobs : List Task) (time slot : ℕ) (found : Found) : Type 0 where
  pub there : found.index < length jobs
  pub job : ForSome (slice_get jobs found.index) (IsOfSlot p clock links jobs time slot found.told)

abbrev pub FindsAtSlot : PlaceView → ClockSet → List EndView → List Task → ℕ → ℕ → Option Found → Type 0
FindsAtSlot p clock links jobs time slot None = IsSlotIdle p clock links jobs time slot
FindsAtSlot p clock links jobs time slot (Some found) = IsAtSlot p clock links jobs time slot found

-- the first job, in order of slot, that has a step
pub record IsFirst (p : PlaceView) (clock : ClockSet) (links : List EndView) (jobs : List Task) (time : ℕ) (x : Told) (t : Task) : Type 0 where
  pub found : find (has_slot (slot_of t)) jobs ≡ Some t
  pub ready : IsReady p clock links time t x
  pub told : IsToldTo links t x
  pub waits : WaitsFor links (slot_of t) (takes_in x)
  pub before : (slot : ℕ) → slot < slot_of t → IsSlotIdle p clock links jobs time slot

pub record FindsFirst (p : PlaceView) (clock : ClockSet) (links : List EndView) (jobs : List Task) (time : ℕ) (found : Found) : Type 0 where
  pub there : found.index < length jobs
  pub job : ForSome (slice_get jobs found.index) (IsFirst p clock links jobs time found.told)

abbrev pub Finds : PlaceView → ClockSet → List EndView → List Task → ℕ → Option Found → Type 0
Finds p clock links jobs time None = (slot : ℕ) → slot < 4 → IsSlotIdle p clock links jobs time slot
Finds p clock links jobs time (Some found) = FindsFirst p clock links jobs time found
