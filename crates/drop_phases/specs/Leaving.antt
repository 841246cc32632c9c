-- What a step of a local drop does and leaves, in one fact, for the crates of drops (own).
use Rattle.std.specs.Prelude.{◌≡◌, ◌≤◌, ℕ, true, false, List, [], Option, None, IfSome, IfOk, OnErr, Result, Ok, Err}
use Rattle.std.specs.Option.{ForSome}
use Rattle.annex_base.specs.Causes.{Rose}
use Rattle.annex_base.specs.declared.kinds.Call.TheVariants as calls
use Rattle.annex_base.specs.declared.kinds.Word.{Word}
use Rattle.annex_base.specs.declared.memory.NoMemory.{NoMemory}
use Rattle.run_data.specs.declared.entry.By.TheVariants.{Job as by_job}
use Rattle.run_data.specs.declared.entry.EntryKind.TheVariants as kinds
use Rattle.run_data.specs.declared.entry.FrameView.{FrameView}
use Rattle.run_data.specs.declared.job.DropRefusal.{DropRefusal}
use Rattle.run_data.specs.declared.job.DropRefusal.TheVariants as refusals
use Rattle.run_data.specs.declared.job.Outcome.TheVariants.{Refused}
use Rattle.object_store.specs.Stores.{Contents}
use Rattle.object_store.specs.declared.keeper.HoldRecord.{HoldRecord}
use Rattle.node_model.specs.Jobs.{partner}
use Rattle.node_model.specs.JobStep.{Turn}
use Rattle.node_model.specs.Look.{Effect, failed_in}
use Rattle.node_model.specs.Turns.{goes}
use Rattle.content_lock.specs.Rows.{AreAfter, Rows}
use Rattle.content_lock.specs.declared.refusals.BarRefused.{BarRefused}
use Rattle.content_lock.specs.declared.refusals.BarRefused.TheVariants as bars
use Rattle.drop_phases.specs.declared.phase.Ending.TheVariants as endings
use Rattle.drop_phases.specs.declared.phase.Phase.TheVariants as phases
use Rattle.drop_phases.specs.declared.turn.Output.{Output}
use Rattle.drop_phases.specs.Sends.{SendsView}
use Rattle.drop_phases.specs.declared.turn.Taken.{Taken}
use Rattle.drop_phases.specs.Worker.{Worker}
use Rattle.drop_phases.specs.Working.{Sight, phase_as, present_in}
use Rattle.drop_phases.specs.Doing.{DoesAsAsked, Grows, HasToken, OthersStay, contents_after}
use Rattle.drop_phases.specs.Feeding.{FeedsFrameAt, FitsLocal, KeepsWord, step_of}

-- what a store tells of itself
pub record Store : Type 0 where
  pub contents : Option Contents
  pub records : Option (List HoldRecord)
  pub faults : ℕ

abbrev pub store : Option Contents → Option (List HoldRecord) → ℕ → Store
store contents records faults = record { contents = contents; records = records; faults = faults }

-- what a step leaves of the rows, the store and the worker
pub record Leaves (rows rows' : Rows) (k k' : Store) (w w' : Worker) (out : Output) : Type 0 where
  pub after : AreAfter out.kind rows rows'
  pub contents : k'.contents ≡ contents_after k.contents out.kind
  pub records : k'.records ≡ k.records
  pub later : k.faults ≤ k'.faults
  pub cause : IfSome (failed_in out.kind) (λ call. Rose k.faults k'.faults)
  pub owns : HasToken w'.number w'.job.key w'.token rows'
  pub fits : out.ended ≡ false → FitsLocal w'.phase w'.token
  pub heard : Grows w.heard w'.heard
  pub number : w'.number ≡ w.number
  pub job : w'.job ≡ w.job
  pub others : OthersStay w.number rows rows'
  pub holds : rows'.holds ≡ rows.holds

-- want of memory left all as it was
pub record Stays (rows rows' : Rows) (k k' : Store) (w w' : Worker) : Type 0 where
  pub worker : w' ≡ w
  pub table : rows' ≡ rows
  pub contents : k'.contents ≡ k.contents
  pub records : k'.records ≡ k.records
  pub later : k.faults ≤ k'.faults

-- a step did this, and left that; or nothing changed
abbrev pub Did : Rows → Rows → Store → Store → Worker → Worker → (Output → Type 0) → Result Output NoMemory → Type 0
Did rows rows' k k' w w' does (Ok out) = does out × Leaves rows rows' k k' w w' out
Did rows rows' k k' w w' does (Err e) = Stays rows rows' k k' w w'

-- a step that takes no frame makes what is asked, where the store tells its contents
abbrev pub ActsOver : Sight → Option Contents → Rows → Rows → Worker → Worker → (Turn → Effect) → Output → Type 0
ActsOver x known rows rows' w w' asked out = ForSome known (λ c. DoesAsAsked x rows rows' (present_in c) w w' None asked out)

-- a step goes on from where the job stands
abbrev pub GoesSo : Sight → Option Contents → Rows → Rows → Worker → Worker → Output → Type 0
GoesSo x known rows rows' w w' out = ActsOver x known rows rows' w w' (λ t. goes t t.w.phase) out

-- the peer on whose connection the job stands, if it stands on one
abbrev pub stands_on : Worker → Option ℕ
stands_on w = partner w.job.peer (phase_as w.phase)

-- a step does what the definitions do with what it is told, and keeps the word beside a refused look
pub record Advances (x : Sight) (known : Option Contents) (rows rows' : Rows) (w w' : Worker) (taken : Taken) (word : Option Word) (out : Output) : Type 0 where
  pub told : KeepsWord taken word w w'
  pub does : ForSome known (λ c. (f : Option FrameView) → FeedsFrameAt x w.slot (stands_on w) f taken → DoesAsAsked x rows rows' (present_in c) w w' f (step_of (stands_on w) f) out)

-- ---- a bar that was refused

-- the job ends with this refusal
abbrev pub IsRefusal : DropRefusal → Worker → Worker → SendsView → Result Output NoMemory → Type 0
IsRefusal why w w' sends r = (w' ≡ w) × (r ≡ Ok (record { kind = kinds.End w.number (Refused why); sends = sends; ended = true }))

-- the store failed: the job ends next
pub record Fails (w w' : Worker) (out : Output) : Type 0 where
  pub kind : out.kind ≡ kinds.Fault calls.Has (by_job w.number)
  pub sends : out.sends.items ≡ []
  pub ended : out.ended ≡ false
  pub next : w' ≡ record w { phase = phases.Ends endings.StoreFault }

-- what follows a bar that wasn't put
abbrev pub FollowsBarRefused : BarRefused → Worker → Worker → SendsView → Result Output NoMemory → Type 0
FollowsBarRefused bars.Absent w w' sends r = IsRefusal refusals.NotPresent w w' sends r
FollowsBarRefused (bars.Barred job) w w' sends r = IsRefusal (refusals.Barred job) w w' sends r
FollowsBarRefused (bars.Held hold until) w w' sends r = IsRefusal (refusals.Held until) w w' sends r
FollowsBarRefused bars.StoreFault w w' sends r = IfOk r (Fails w w') × OnErr r ⊥
FollowsBarRefused bars.NoMemory w w' sends r = IfOk r (λ out. ⊥) × (w' ≡ w)
