-- What the proof of `forcing::judges_freely` needs beside the tactics.
use Rattle.std.proofs.Common.{sym, ap, Bool, ◌∙◌}
use Rattle.step_judging.specs.Rules.{is_nil}
use Rattle.drop_makes.specs.Knowings.{drop_in}
use Rattle.node_model.specs.Jobs.{side_of}
use Rattle.node_model.specs.Turns.{judge_needs}
use Rattle.node_model.specs.Knows.{next_by}
use Rattle.step_makes.proofs.forcing.judges_freely.Goals as goal

pub returns-then-enough : goal.returns-then-enough
returns-then-enough c = λ s st.
    let k = c.args.known.now in
    let x = k.turn.now in
    let d = drop_in x k.logs.now s st in
    c.acts_freely.ensures s st ∙ ap (λ (e : Bool). is_nil (judge_needs d e (next_by d.read d.w) (side_of d.w))) (sym c.if-enough.true ∙ c.enough.ensures s st)

pub returns-else-enough : goal.returns-else-enough
returns-else-enough c = λ s st.
    let k = c.args.known.now in
    let x = k.turn.now in
    let d = drop_in x k.logs.now s st in
    c.lacks_freely.ensures s st ∙ ap (λ (e : Bool). is_nil (judge_needs d e (next_by d.read d.w) (side_of d.w))) (sym c.if-enough.false ∙ c.enough.ensures s st)
