-- What the proof of `putting::puts_to` needs beside the tactics.
use Rattle.std.proofs.Common.{◌≡◌, true, ◌∙◌, sym}
use Rattle.node_model.specs.SetUp.{SetUp}
use Rattle.node_model.specs.State.{State}
use Rattle.std.proofs.lemmas.Result.{IfOk-weaker}
use Rattle.node_model.specs.TransferStep.{first_put}
use Rattle.node_model.specs.Requests.{goes_to}
use Rattle.step_judging.specs.Same.{same_effect}
use Rattle.step_judging.specs.Rules.{effect_of}
use Rattle.job_makes.specs.Turns.{turn_in}
use Rattle.transfer_makes.proofs.putting.puts_to.Goals as goal

pub returns-in-Some : goal.returns-in-Some
returns-in-Some c =
    let x = c.args.turn.now in
    IfOk-weaker c.goes_to.result
    (λ b. (s : SetUp) (st : State) → b ≡ same_effect (goes_to (turn_in x s st) c.in-Some.peer) (effect_of x.told.now))
    (λ b. (s : SetUp) (st : State) → b ≡ same_effect (first_put (turn_in x s st) true c.args.peer) (effect_of x.told.now))
    (λ b told s st. told s st ∙ (λ i. same_effect (first_put (turn_in x s st) true (sym c.in-Some.is i)) (effect_of x.told.now)))
    c.goes_to.ensures

pub returns-in-None : goal.returns-in-None
returns-in-None c = λ s st. c.is_not_here.ensures s st ∙ (λ i. same_effect (first_put (turn_in c.args.turn.now s st) true (sym c.in-None.is i)) (effect_of c.args.turn.now.told.now))
