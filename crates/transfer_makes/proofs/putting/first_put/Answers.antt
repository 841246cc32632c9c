-- What the proof of `putting::first_put` needs beside the tactics.
use Rattle.std.proofs.Common.{◌≡◌, true, ◌∙◌, sym}
use Rattle.node_model.specs.SetUp.{SetUp}
use Rattle.node_model.specs.State.{State}
use Rattle.std.proofs.lemmas.Result.{IfOk-weaker}
use Rattle.node_model.specs.TransferStep.{first_put}
use Rattle.step_judging.specs.Same.{same_effect}
use Rattle.step_judging.specs.Rules.{effect_of}
use Rattle.job_makes.specs.Turns.{turn_in}
use Rattle.transfer_makes.proofs.putting.first_put.Goals as goal

pub returns-then-here : goal.returns-then-here
returns-then-here c =
    let x = c.args.turn.now in
    IfOk-weaker c.puts_to.result
    (λ b. (s : SetUp) (st : State) → b ≡ same_effect (first_put (turn_in x s st) true c.args.peer) (effect_of x.told.now))
    (λ b. (s : SetUp) (st : State) → b ≡ same_effect (first_put (turn_in x s st) c.args.here c.args.peer) (effect_of x.told.now))
    (λ b told s st. told s st ∙ (λ i. same_effect (first_put (turn_in x s st) (sym c.if-here.true i) c.args.peer) (effect_of x.told.now)))
    c.puts_to.ensures

pub returns-else-here : goal.returns-else-here
returns-else-here c = λ s st. c.is_not_here.ensures s st ∙ (λ i. same_effect (first_put (turn_in c.args.turn.now s st) (sym c.if-here.false i) c.args.peer) (effect_of c.args.turn.now.told.now))
