-- What the proof of `knowing::Knowing::asks_target` needs beside the tactics.
use Rattle.std.proofs.Common.{◌≡◌, ℕ, Option, Some, sym, ap, ◌∙◌}
use Rattle.std.specs.Option.{option_copied}
use Rattle.node_model.specs.DropStep.{asks_target, first_end}
use Rattle.step_judging.specs.Rules.{effect_of}
use Rattle.step_judging.specs.Same.{same_effect}
use Rattle.drop_makes.specs.Knowings.{drop_in}
use Rattle.drop_makes.proofs.knowing.Knowing.asks_target.Goals as goal

pub returns-in-None : goal.returns-in-None
returns-in-None c = λ s st.
    let k = c.args.self.now in
    let t = drop_in k.turn.now k.logs.now s st in
    let told = effect_of k.turn.now.told.now in
    c.orders.ensures s st
    ∙ ap (λ (o : Option ℕ). same_effect (asks_target t c.args.version (option_copied c.args.taken) o) told) (sym c.in-None.is ∙ c.first_end.ensures s st)

pub returns-in-Some : goal.returns-in-Some
returns-in-Some c = λ s st.
    let k = c.args.self.now in
    let t = drop_in k.turn.now k.logs.now s st in
    let told = effect_of k.turn.now.told.now in
    let step : (end : ℕ) → Some end ≡ first_end t → c.asks_time.result ≡ same_effect (asks_target t c.args.version (option_copied c.args.taken) (first_end t)) told =
    (λ end is. c.asks_time.ensures s st end ∙ ap (λ (o : Option ℕ). same_effect (asks_target t c.args.version (option_copied c.args.taken) o) told) is) in
    step _ (sym c.in-Some.is ∙ c.first_end.ensures s st)
