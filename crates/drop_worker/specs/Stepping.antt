-- What a step of a drop does and leaves on either side, in one fact, for private contracts (own).
use Rattle.std.specs.Prelude.{◌≡◌, ◌≤◌, false, Option, IfSome, Result, Ok, Err}
use Rattle.std.specs.Option.{ForSome}
use Rattle.annex_base.specs.Causes.{Rose}
use Rattle.annex_base.specs.declared.kinds.Word.{Word}
use Rattle.annex_base.specs.declared.memory.NoMemory.{NoMemory}
use Rattle.drop_proof.specs.declared.rule.Side.TheVariants.{Local}
use Rattle.run_data.specs.declared.entry.FrameView.{FrameView}
use Rattle.object_store.specs.Stores.{Contents}
use Rattle.node_model.specs.Look.{failed_in}
use Rattle.content_lock.specs.Rows.{AreAfter, Rows}
use Rattle.content_lock.specs.Stored.{Agrees}
use Rattle.drop_phases.specs.declared.turn.Output.{Output}
use Rattle.drop_phases.specs.declared.turn.Taken.{Taken}
use Rattle.drop_phases.specs.Worker.{Worker}
use Rattle.drop_phases.specs.Working.{Sight, present_in}
use Rattle.drop_phases.specs.Doing.{DoesAsAsked, Grows, HasToken, OthersStay, contents_after}
use Rattle.drop_phases.specs.Feeding.{FeedsFrameAt, KeepsAnswer, KeepsWord, step_of}
use Rattle.drop_phases.specs.Leaving.{Stays, Store, stands_on}
use Rattle.drop_phases.specs.Sides.{FitsSide, side_in}

-- what a step leaves of the rows, the store and the worker
pub record LeavesSo (rows rows' : Rows) (k k' : Store) (w w' : Worker) (out : Output) : Type 0 where
  pub after : AreAfter out.kind rows rows'
  pub contents : k'.contents ≡ contents_after k.contents out.kind
  pub agrees : Agrees k.records rows.holds → Agrees k'.records rows'.holds
  pub later : k.faults ≤ k'.faults
  pub cause : IfSome (failed_in out.kind) (λ call. Rose k.faults k'.faults)
  pub owns : HasToken w'.number w'.job.key w'.token rows'
  pub fits : out.ended ≡ false → FitsSide (side_in w) w'.phase w'.token
  pub heard : Grows w.heard w'.heard
  pub number : w'.number ≡ w.number
  pub job : w'.job ≡ w.job
  pub others : OthersStay w.number rows rows'
  pub holds : side_in w ≡ Local → rows'.holds ≡ rows.holds
  pub records : side_in w ≡ Local → k'.records ≡ k.records

-- a step did this, and left that; or nothing changed
abbrev pub DidSo : Rows → Rows → Store → Store → Worker → Worker → (Output → Type 0) → Result Output NoMemory → Type 0
DidSo rows rows' k k' w w' does (Ok out) = does out × LeavesSo rows rows' k k' w w' out
DidSo rows rows' k k' w w' does (Err e) = Stays rows rows' k k' w w'

-- a step does what the definitions do with what it is told, and keeps the words beside a refused look and an answer to an order
pub record AdvancesSo (x : Sight) (known : Option Contents) (rows rows' : Rows) (w w' : Worker) (taken : Taken) (word : Option Word) (out : Output) : Type 0 where
  pub told : KeepsWord taken word w w'
  pub answer : KeepsAnswer taken word w w'
  pub does : ForSome known (λ c. (f : Option FrameView) → FeedsFrameAt x w.slot (stands_on w) f taken → DoesAsAsked x rows rows' (present_in c) w w' f (step_of (stands_on w) f) out)
