-- What the proof of `forcing::needs_no_target` needs beside the tactics.
use Rattle.std.proofs.Common.{sym, ap, ℕ, Option, ◌∙◌}
use Rattle.step_judging.specs.Rules.{is_nil}
use Rattle.drop_makes.specs.Knowings.{drop_in}
use Rattle.node_model.specs.Turns.{target_needs}
use Rattle.step_makes.proofs.forcing.needs_no_target.Goals as goal

pub returns-in-Some : goal.returns-in-Some
returns-in-Some c = λ s st.
    let k = c.args.known.now in
    let x = k.turn.now in
    let d = drop_in x k.logs.now s st in
    c.is_too_old.ensures s st ∙ ap (λ (o : Option ℕ). is_nil (target_needs d o)) (sym c.in-Some.is ∙ c.first_end.ensures s st)

pub returns-in-None : goal.returns-in-None
returns-in-None c = λ s st.
    let k = c.args.known.now in
    let x = k.turn.now in
    let d = drop_in x k.logs.now s st in
    ap (λ (o : Option ℕ). is_nil (target_needs d o)) (sym c.in-None.is ∙ c.first_end.ensures s st)
