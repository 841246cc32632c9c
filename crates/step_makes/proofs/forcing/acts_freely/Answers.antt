-- What the proof of `forcing::acts_freely` needs beside the tactics.
use Rattle.std.proofs.Common.{sym, ap, true, None, ◌∙◌}
use Rattle.step_judging.specs.Rules.{is_nil}
use Rattle.drop_makes.specs.Knowings.{drop_in}
use Rattle.drop_proof.specs.declared.rule.Side.{Side}
use Rattle.node_model.specs.Turns.{judge_needs}
use Rattle.step_makes.proofs.forcing.acts_freely.Goals as goal

pub returns-in-Local : goal.returns-in-Local
returns-in-Local c = λ s st.
    let k = c.args.known.now in
    let x = k.turn.now in
    let d = drop_in x k.logs.now s st in
    c.removes_freely.ensures s st ∙ ap (λ (z : Side). is_nil (judge_needs d true None z)) (sym c.in-Local.is ∙ c.side.ensures)

pub returns-in-Remote : goal.returns-in-Remote
returns-in-Remote c = λ s st.
    let k = c.args.known.now in
    let x = k.turn.now in
    let d = drop_in x k.logs.now s st in
    c.needs_no_target.ensures s st ∙ ap (λ (z : Side). is_nil (judge_needs d true None z)) (sym c.in-Remote.is ∙ c.side.ensures)
