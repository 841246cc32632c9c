-- What the proof of `drops::acts` needs beside the tactics.
use Rattle.std.proofs.Common.{sym, ap, true, None, ℕ, ◌∙◌, ◌≡◌}
use Rattle.step_judging.specs.Same.{same_effect}
use Rattle.step_judging.specs.Rules.{effect_of}
use Rattle.drop_makes.specs.Knowings.{drop_in}
use Rattle.node_model.specs.SetUp.{SetUp}
use Rattle.node_model.specs.State.{State}
use Rattle.std.proofs.lemmas.Result.{IfOk-weaker}
use Rattle.drop_proof.specs.declared.rule.Side.{Side}
use Rattle.node_model.specs.Jobs.{side_of}
use Rattle.node_model.specs.Requests.{goes_to}
use Rattle.node_model.specs.Turns.{judges}
use Rattle.step_makes.proofs.drops.acts.Goals as goal

pub returns-in-Local : goal.returns-in-Local
returns-in-Local c = λ s st.
    let k = c.args.known.now in
    let x = k.turn.now in
    let d = drop_in x k.logs.now s st in
    c.removes.ensures s st ∙ ap (λ (z : Side). same_effect (judges d true None z) (effect_of x.told.now)) (sym c.in-Local.is ∙ c.side.ensures)

pub returns-in-Remote : goal.returns-in-Remote
returns-in-Remote c =
    let k = c.args.known.now in
    let x = k.turn.now in
    IfOk-weaker c.drop_goes_to.result
    (λ b. (s : SetUp) (st : State) → b ≡ same_effect (goes_to (drop_in x k.logs.now s st) c.target.result) (effect_of x.told.now))
    (λ b. (s : SetUp) (st : State) → b ≡ same_effect (judges (drop_in x k.logs.now s st) true None (side_of (drop_in x k.logs.now s st).w)) (effect_of x.told.now))
    (λ b told s st.
    let d = drop_in x k.logs.now s st in
    told s st
    ∙ ap (λ (p : ℕ). same_effect (goes_to d p) (effect_of x.told.now)) c.target.ensures
    ∙ ap (λ (z : Side). same_effect (judges d true None z) (effect_of x.told.now)) (sym c.in-Remote.is ∙ c.side.ensures))
    c.drop_goes_to.ensures
