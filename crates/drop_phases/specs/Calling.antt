-- Which calls of its store a step of a drop makes, where the store tells its contents, for the crates of drops (own).
use Rattle.std.specs.Prelude.{◌≡◌, ℕ, Bool, not, ◌&&◌, List, Option, Some, Result, Ok, Err}
use Rattle.std.specs.List.{list_any}
use Rattle.std.specs.Option.{ForSome, option_map}
use Rattle.annex_base.specs.declared.kinds.Call.{Call}
use Rattle.annex_base.specs.declared.memory.NoMemory.{NoMemory}
use Rattle.run_data.specs.declared.entry.By.TheVariants.{Job as by_job}
use Rattle.run_data.specs.declared.entry.FrameView.{FrameView}
use Rattle.run_data.specs.declared.job.Outcome.{Outcome}
use Rattle.run_data.specs.declared.row.Hold.{Hold}
use Rattle.object_store.specs.Stores.{Contents}
use Rattle.node_model.specs.Calls.{to_release}
use Rattle.node_model.specs.JobStep.{Turn}
use Rattle.node_model.specs.Look.{Effect, failed_in}
use Rattle.node_model.specs.Rows.{is_lost_ordered, same_owner}
use Rattle.node_model.specs.Turns.{goes}
use Rattle.content_lock.specs.Rows.{Rows}
use Rattle.drop_phases.specs.declared.turn.Output.{Output}
use Rattle.drop_phases.specs.declared.turn.Taken.{Taken}
use Rattle.content_lock.specs.CallsMade.{MakesCalls, fewer}
use Rattle.drop_phases.specs.Feeding.{FeedsFrame, FeedsFrameAt, step_of}
use Rattle.drop_phases.specs.Leaving.{stands_on}
use Rattle.drop_phases.specs.Worker.{Worker}
use Rattle.drop_phases.specs.Working.{Rest, Sight, present_in, turn_in}

-- how many calls of each kind are still to fail, where the store tells it
abbrev pub Failing : Type 0
Failing = Option (Call → ℕ)

-- as many calls are still to fail as before, but for the one that failed
abbrev pub AreLeft : Option Call → Failing → Failing → Type 0
AreLeft failed before after = after ≡ option_map (fewer failed) before

-- a step made the calls of what is asked; or it found no memory, and as many are to fail
abbrev pub MakesOver : Sight → Option Contents → Rows → Worker → (Turn → Effect) → Failing → Failing → Result Output NoMemory → Type 0
MakesOver x known rows w asked before after (Ok out) =
    AreLeft (failed_in out.kind) before after × ForSome known (λ c. (rest : Rest) → MakesCalls (asked (turn_in x rows (present_in c) (failed_in out.kind) rest w)).calls (failed_in out.kind) before after)
MakesOver x known rows w asked before after (Err e) = after ≡ before

-- those of the step from where the job stands
abbrev pub MakesPhase : Sight → Option Contents → Rows → Worker → Failing → Failing → Result Output NoMemory → Type 0
MakesPhase x known rows w before after r = MakesOver x known rows w (λ t. goes t t.w.phase) before after r

-- those of a step that is told of what came from this peer
abbrev pub MakesFed : Sight → Rows → Worker → ℕ → Taken → Failing → Failing → Result Output NoMemory → Type 0
MakesFed x rows w peer taken before after (Ok out) =
    AreLeft (failed_in out.kind) before after × ((p : List ℕ → Bool) (f : Option FrameView) → FeedsFrame x w.slot peer f taken
    → (rest : Rest) → MakesCalls (step_of (Some peer) f (turn_in x rows p (failed_in out.kind) rest w)).calls (failed_in out.kind) before after)
MakesFed x rows w peer taken before after (Err e) = after ≡ before

-- those of a step that is told of its frame, or of none
abbrev pub MakesSo : Sight → Option Contents → Rows → Worker → Taken → Failing → Failing → Result Output NoMemory → Type 0
MakesSo x known rows w taken before after (Ok out) =
    AreLeft (failed_in out.kind) before after × ForSome known (λ c. (f : Option FrameView) → FeedsFrameAt x w.slot (stands_on w) f taken
    → (rest : Rest) → MakesCalls (step_of (stands_on w) f (turn_in x rows (present_in c) (failed_in out.kind) rest w)).calls (failed_in out.kind) before after)
MakesSo x known rows w taken before after (Err e) = after ≡ before

-- the job has an open hold
abbrev pub has_open : Rows → Worker → Bool
has_open rows w = list_any (λ (h : Hold). same_owner h.owner (by_job w.number) && not h.kept) rows.holds

-- those of an end with this outcome
abbrev pub MakesEnd : Rows → Worker → Outcome → Failing → Failing → Result Output NoMemory → Type 0
MakesEnd rows w outcome before after (Ok out) = MakesCalls (to_release (has_open rows w && not (is_lost_ordered outcome))) (failed_in out.kind) before after
MakesEnd rows w outcome before after (Err e) = after ≡ before
