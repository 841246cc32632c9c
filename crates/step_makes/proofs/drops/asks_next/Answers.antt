-- What the proof of `drops::asks_next` needs beside the tactics.
use Rattle.std.proofs.Common.{sym, ap, false, None, ℕ, Option, ◌∙◌, ◌≡◌}
use Rattle.node_model.specs.DropStep.{lacking_outcome}
use Rattle.step_judging.specs.Same.{same_effect}
use Rattle.step_judging.specs.Rules.{effect_of}
use Rattle.drop_makes.specs.Knowings.{drop_in}
use Rattle.node_model.specs.SetUp.{SetUp}
use Rattle.node_model.specs.State.{State}
use Rattle.std.proofs.lemmas.Result.{IfOk-weaker}
use Rattle.node_model.specs.JobStep.{ends}
use Rattle.node_model.specs.Jobs.{side_of}
use Rattle.node_model.specs.Requests.{goes_to}
use Rattle.node_model.specs.Turns.{judges}
use Rattle.step_makes.proofs.drops.asks_next.Goals as goal

pub returns-in-Some : goal.returns-in-Some
returns-in-Some c =
    let k = c.args.known.now in
    let x = k.turn.now in
    IfOk-weaker c.drop_goes_to.result
    (λ b. (s : SetUp) (st : State) → b ≡ same_effect (goes_to (drop_in x k.logs.now s st) c.in-Some.peer) (effect_of x.told.now))
    (λ b. (s : SetUp) (st : State) → b ≡ same_effect (judges (drop_in x k.logs.now s st) false c.args.next (side_of (drop_in x k.logs.now s st).w)) (effect_of x.told.now))
    (λ b told s st.
    let d = drop_in x k.logs.now s st in
    told s st ∙ ap (λ (o : Option ℕ). same_effect (judges d false o (side_of d.w)) (effect_of x.told.now)) (sym c.in-Some.is))
    c.drop_goes_to.ensures

pub returns-in-None : goal.returns-in-None
returns-in-None c =
    let k = c.args.known.now in
    let x = k.turn.now in
    IfOk-weaker c.lacks.result
    (λ b. (s : SetUp) (st : State) → b ≡ same_effect (ends (drop_in x k.logs.now s st) None (lacking_outcome (drop_in x k.logs.now s st))) (effect_of x.told.now))
    (λ b. (s : SetUp) (st : State) → b ≡ same_effect (judges (drop_in x k.logs.now s st) false c.args.next (side_of (drop_in x k.logs.now s st).w)) (effect_of x.told.now))
    (λ b told s st.
    let d = drop_in x k.logs.now s st in
    told s st ∙ ap (λ (o : Option ℕ). same_effect (judges d false o (side_of d.w)) (effect_of x.told.now)) (sym c.in-None.is))
    c.lacks.ensures
