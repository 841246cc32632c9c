-- What the proof of `forcing::lacks_freely` needs beside the tactics.
use Rattle.std.proofs.Common.{sym, ap, false, ℕ, Bool, Option, ◌∙◌, if◌then◌else◌}
use Rattle.step_judging.specs.Rules.{is_nil}
use Rattle.std.specs.Prelude.{option_to_list}
use Rattle.step_makes.proofs.NeedLemmas.{lacking_needs}
use Rattle.drop_makes.specs.Knowings.{drop_in}
use Rattle.node_model.specs.JobStep.{locked_peers}
use Rattle.node_model.specs.Jobs.{side_of}
use Rattle.node_model.specs.Knows.{next_by}
use Rattle.step_makes.proofs.forcing.lacks_freely.Goals as goal

pub returns-then-lists_none : goal.returns-then-lists_none
returns-then-lists_none c = λ s st.
    let k = c.args.known.now in
    let x = k.turn.now in
    let d = drop_in x k.logs.now s st in
    c.owes_none.ensures s st
    ∙ ap (λ (v : Bool). if v then is_nil (locked_peers d) else false) (sym c.if-lists_none.true ∙ c.lists_none.ensures ∙ ap (λ (o : Option ℕ). is_nil (option_to_list o)) (c.next.ensures s st))
    ∙ lacking_needs d (next_by d.read d.w) (side_of d.w)

pub returns-else-lists_none : goal.returns-else-lists_none
returns-else-lists_none c = λ s st.
    let k = c.args.known.now in
    let x = k.turn.now in
    let d = drop_in x k.logs.now s st in
    ap (λ (v : Bool). if v then is_nil (locked_peers d) else false) (sym c.if-lists_none.false ∙ c.lists_none.ensures ∙ ap (λ (o : Option ℕ). is_nil (option_to_list o)) (c.next.ensures s st))
    ∙ lacking_needs d (next_by d.read d.w) (side_of d.w)
