-- What the proof of `steps::starts_get` needs beside the tactics.
use Rattle.std.proofs.Common.{sym, true, false, None, ◌∙◌, ◌≡◌}
use Rattle.step_judging.specs.Same.{same_effect}
use Rattle.step_judging.specs.Rules.{effect_of}
use Rattle.job_makes.specs.Turns.{turn_in}
use Rattle.node_model.specs.SetUp.{SetUp}
use Rattle.node_model.specs.State.{State}
use Rattle.std.proofs.lemmas.Result.{IfOk-weaker}
use Rattle.step_makes.specs.Knowledge.{IsTurnOf}
use Rattle.node_model.specs.TransferStep.{first_get, next_source}
use Rattle.node_model.specs.SessionStep.{is_filled}
use Rattle.step_makes.proofs.steps.starts_get.Goals as goal

pub returns-then-here : goal.returns-then-here
returns-then-here c =
    let x = c.args.turn.now in
    IfOk-weaker c.first_get.result
    (λ b. (s : SetUp) (st : State) → b ≡ same_effect (first_get (turn_in x s st) true false None) (effect_of x.told.now))
    (λ b. (s : SetUp) (st : State) → IsTurnOf x s st → b ≡ same_effect (first_get (turn_in x s st) c.args.here (is_filled s st x.work.now.what.key) (next_source (turn_in x s st))) (effect_of x.told.now))
    (λ b told s st of. told s st ∙ (λ i. same_effect (first_get (turn_in x s st) (sym c.if-here.true i) (is_filled s st x.work.now.what.key) (next_source (turn_in x s st))) (effect_of x.told.now)))
    c.first_get.ensures

pub returns-else-here : goal.returns-else-here
returns-else-here c =
    let x = c.args.turn.now in
    IfOk-weaker c.first_get-else-here.result
    (λ b. (s : SetUp) (st : State) → b ≡ same_effect (first_get (turn_in x s st) false c.is_filled-filled.result c.next_source-source.result) (effect_of x.told.now))
    (λ b. (s : SetUp) (st : State) → IsTurnOf x s st → b ≡ same_effect (first_get (turn_in x s st) c.args.here (is_filled s st x.work.now.what.key) (next_source (turn_in x s st))) (effect_of x.told.now))
    (λ b told s st of.
    told s st ∙ (λ i. same_effect (first_get (turn_in x s st) (sym c.if-here.false i) (c.is_filled-filled.ensures s st of.repos of.state_is i) (c.next_source-source.ensures s st i)) (effect_of x.told.now)))
    c.first_get-else-here.ensures
