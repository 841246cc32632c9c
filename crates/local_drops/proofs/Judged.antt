-- The step of a local drop by its judgement.
use Rattle.std.proofs.Common.{◌≡◌, ℕ, Bool, List, Option, Result, sym, ap, ◌∙◌}
use Rattle.annex_base.specs.declared.kinds.Call.{Call}
use Rattle.annex_base.specs.declared.memory.NoMemory.{NoMemory}
use Rattle.node_model.specs.Ends.{End, EndName}
use Rattle.node_model.specs.Jobs.{Drops}
use Rattle.node_model.specs.Knows.{Reading}
use Rattle.node_model.specs.Turns.{next_step}
use Rattle.content_lock.specs.Rows.{Rows}
use Rattle.drop_judging.specs.declared.judging.Verdict.{Verdict}
use Rattle.drop_phases.specs.declared.phase.Phase.TheVariants as phases
use Rattle.drop_phases.specs.declared.turn.Output.{Output}
use Rattle.drop_phases.specs.Worker.{Worker}
use Rattle.drop_phases.specs.Working.{Rest, sight, turn_in}
use Rattle.drop_judging.specs.Judging.{step_by}
use Rattle.drop_phases.specs.Leaving.{ActsOver, Did, GoesSo, Store}
use Rattle.drop_phases.proofs.Leavings.{goes_did}

-- the step by a judgement is the next step
pub judged_did : (read : Reading) (ends_at : EndName → End) (time number : ℕ) (rows rows' : Rows) (k k' : Store) (w w' : Worker) (v v' : Verdict) (r : Result Output NoMemory) → w.phase ≡ phases.Next → v ≡ v'
    → ((number : ℕ) (rs : Rows) (p : List ℕ → Bool) (fails : Option Call) (rest : Rest) → step_by v (turn_in (sight read ends_at time number) rs p fails rest w) ≡ next_step (turn_in (sight read ends_at time number) rs p fails rest w) Drops)
    → Did rows rows' k k' w w' (ActsOver (sight read ends_at time number) k.contents rows rows' w w' (step_by v')) r
    → Did rows rows' k k' w w' (GoesSo (sight read ends_at time number) k.contents rows rows' w w') r
judged_did read ends_at time number rows rows' k k' w w' v v' r at is step d =
    goes_did (sight read ends_at time number) rows rows' k k' w w' phases.Next (step_by v') r at
    (λ p fails rest. ap (λ (u : Verdict). step_by u (turn_in (sight read ends_at time number) rows p fails rest w)) (sym is) ∙ step number rows p fails rest) d
