-- What the proof of `knowing::Knowing::times` needs beside the tactics.
use Rattle.std.proofs.Common.{ℕ, Option, sym, ap, ◌∙◌}
use Rattle.node_model.specs.DropStep.{times}
use Rattle.step_judging.specs.Rules.{effect_of}
use Rattle.step_judging.specs.Same.{same_effect}
use Rattle.drop_makes.specs.Knowings.{drop_in}
use Rattle.drop_makes.proofs.knowing.Knowing.times.Goals as goal

pub returns-in-None : goal.returns-in-None
returns-in-None c = λ s st.
    let k = c.args.self.now in
    let t = drop_in k.turn.now k.logs.now s st in
    let told = effect_of k.turn.now.told.now in
    c.orders.ensures s st ∙ ap (λ (o : Option ℕ). same_effect (times t c.args.frame.now c.args.time o) told) (sym c.in-None.is ∙ c.first_end.ensures s st)

pub returns-in-Some : goal.returns-in-Some
returns-in-Some c = λ s st.
    let k = c.args.self.now in
    let t = drop_in k.turn.now k.logs.now s st in
    let told = effect_of k.turn.now.told.now in
    c.times_by.ensures s st ∙ ap (λ (o : Option ℕ). same_effect (times t c.args.frame.now c.args.time o) told) (sym c.in-Some.is ∙ c.first_end.ensures s st)
