-- What the proof of `forcing::removes_freely` needs beside the tactics.
use Rattle.std.proofs.Common.{sym, ap, ℕ, Bool, ◌∙◌, if◌then◌else◌, []}
use Rattle.step_judging.specs.Rules.{is_nil}
use Rattle.drop_makes.specs.Knowings.{drop_in}
use Rattle.node_model.specs.JobStep.{locked_peers}
use Rattle.step_makes.proofs.forcing.removes_freely.Goals as goal

pub returns-then-in_time : goal.returns-then-in_time
returns-then-in_time c = λ s st.
    let k = c.args.known.now in
    let x = k.turn.now in
    let d = drop_in x k.logs.now s st in
    ap (λ (v : Bool). is_nil {X = ℕ} (if v then [] else locked_peers d)) (sym c.if-in_time.true ∙ c.in_time.ensures s st)

pub returns-else-in_time : goal.returns-else-in_time
returns-else-in_time c = λ s st.
    let k = c.args.known.now in
    let x = k.turn.now in
    let d = drop_in x k.logs.now s st in
    c.owes_none.ensures s st ∙ ap (λ (v : Bool). is_nil {X = ℕ} (if v then [] else locked_peers d)) (sym c.if-in_time.false ∙ c.in_time.ensures s st)
