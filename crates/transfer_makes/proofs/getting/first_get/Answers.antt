-- What the proof of `getting::first_get` needs beside the tactics.
use Rattle.std.proofs.Common.{◌≡◌, ◌∙◌, sym}
use Rattle.node_model.specs.SetUp.{SetUp}
use Rattle.node_model.specs.State.{State}
use Rattle.std.proofs.lemmas.Result.{IfOk-weaker}
use Rattle.node_model.specs.JobStep.{talk}
use Rattle.node_model.specs.TransferStep.{first_get}
use Rattle.node_model.specs.Requests.{goes_to}
use Rattle.step_judging.specs.Same.{same_effect}
use Rattle.step_judging.specs.Rules.{effect_of}
use Rattle.job_makes.specs.Turns.{turn_in}
use Rattle.transfer_makes.proofs.getting.first_get.Goals as goal

pub returns-then-here : goal.returns-then-here
returns-then-here c = λ s st. c.finds.ensures s st ∙ (λ i. same_effect (first_get (turn_in c.args.turn.now s st) (sym c.if-here.true i) c.args.filled c.args.source) (effect_of c.args.turn.now.told.now))

pub returns-then-filled : goal.returns-then-filled
returns-then-filled c = λ s st.
    c.is_busy.ensures s st ∙ (λ i. same_effect (first_get (turn_in c.args.turn.now s st) (sym c.if-here.false i) (sym c.if-filled.true i) c.args.source) (effect_of c.args.turn.now.told.now))

pub returns-in-Some : goal.returns-in-Some
returns-in-Some c =
    let x = c.args.turn.now in
    IfOk-weaker c.goes_to.result
    (λ b. (s : SetUp) (st : State) → b ≡ same_effect (goes_to (turn_in x s st) c.in-Some.peer) (effect_of x.told.now))
    (λ b. (s : SetUp) (st : State) → b ≡ same_effect (first_get (turn_in x s st) c.args.here c.args.filled c.args.source) (effect_of x.told.now))
    (λ b told s st. told s st ∙ (λ i. same_effect (first_get (turn_in x s st) (sym c.if-here.false i) (sym c.if-filled.false i) (sym c.in-Some.is i)) (effect_of x.told.now)))
    c.goes_to.ensures

pub returns-in-None : goal.returns-in-None
returns-in-None c = λ s st.
    let t = turn_in c.args.turn.now s st in
    c.quietly.ensures (talk t) (c.talks.ensures s st) ∙ (λ i. same_effect (first_get t (sym c.if-here.false i) (sym c.if-filled.false i) (sym c.in-None.is i)) (effect_of c.args.turn.now.told.now))
