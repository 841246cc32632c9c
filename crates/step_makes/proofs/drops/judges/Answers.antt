-- What the proof of `drops::judges` needs beside the tactics.
use Rattle.std.proofs.Common.{sym, ap, true, false, None, ℕ, Bool, Option, ◌∙◌, ◌≡◌}
use Rattle.node_model.specs.Jobs.{Drops, side_of}
use Rattle.step_judging.specs.Same.{same_effect}
use Rattle.step_judging.specs.Rules.{effect_of}
use Rattle.drop_makes.specs.Knowings.{drop_in}
use Rattle.node_model.specs.SetUp.{SetUp}
use Rattle.node_model.specs.State.{State}
use Rattle.std.proofs.lemmas.Result.{IfOk-weaker}
use Rattle.node_model.specs.Turns.{next_step, judges}
use Rattle.node_model.specs.Knows.{next_by}
use Rattle.step_makes.proofs.drops.judges.Goals as goal

pub returns-then-enough : goal.returns-then-enough
returns-then-enough c =
    let k = c.args.known.now in
    let x = k.turn.now in
    IfOk-weaker c.acts.result
    (λ b. (s : SetUp) (st : State) → b ≡ same_effect (judges (drop_in x k.logs.now s st) true None (side_of (drop_in x k.logs.now s st).w)) (effect_of x.told.now))
    (λ b. (s : SetUp) (st : State) → b ≡ same_effect (next_step (drop_in x k.logs.now s st) Drops) (effect_of x.told.now))
    (λ b told s st.
    let d = drop_in x k.logs.now s st in
    told s st ∙ ap (λ (e : Bool). same_effect (judges d e (next_by d.read d.w) (side_of d.w)) (effect_of x.told.now)) (sym c.if-enough.true ∙ c.enough.ensures s st))
    c.acts.ensures

pub returns-else-enough : goal.returns-else-enough
returns-else-enough c =
    let k = c.args.known.now in
    let x = k.turn.now in
    IfOk-weaker c.asks_next.result
    (λ b. (s : SetUp) (st : State) → b ≡ same_effect (judges (drop_in x k.logs.now s st) false c.next.result (side_of (drop_in x k.logs.now s st).w)) (effect_of x.told.now))
    (λ b. (s : SetUp) (st : State) → b ≡ same_effect (next_step (drop_in x k.logs.now s st) Drops) (effect_of x.told.now))
    (λ b told s st.
    let d = drop_in x k.logs.now s st in
    told s st
    ∙ ap (λ (o : Option ℕ). same_effect (judges d false o (side_of d.w)) (effect_of x.told.now)) (c.next.ensures s st)
    ∙ ap (λ (e : Bool). same_effect (judges d e (next_by d.read d.w) (side_of d.w)) (effect_of x.told.now)) (sym c.if-enough.false ∙ c.enough.ensures s st))
    c.asks_next.ensures
