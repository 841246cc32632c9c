-- What the proof of `knowing::Knowing::takes_time` needs beside the tactics.
use Rattle.std.proofs.Common.{sym, ap, ◌∙◌}
use Rattle.drop_proof.specs.declared.rule.Side.{Side}
use Rattle.node_model.specs.DropStep.{takes_time}
use Rattle.step_judging.specs.Rules.{effect_of}
use Rattle.step_judging.specs.Same.{same_effect}
use Rattle.drop_makes.specs.Knowings.{drop_in}
use Rattle.drop_makes.proofs.knowing.Knowing.takes_time.Goals as goal

pub returns-in-Remote : goal.returns-in-Remote
returns-in-Remote c = λ s st.
    let k = c.args.self.now in
    let t = drop_in k.turn.now k.logs.now s st in
    let told = effect_of k.turn.now.told.now in
    c.takes_far_time.ensures s st ∙ ap (λ (x : Side). same_effect (takes_time t c.args.frame.now c.args.peer c.args.time x) told) (sym c.in-Remote.is ∙ c.side.ensures)

pub returns-in-Local : goal.returns-in-Local
returns-in-Local c = λ s st.
    let k = c.args.self.now in
    let t = drop_in k.turn.now k.logs.now s st in
    let told = effect_of k.turn.now.told.now in
    c.wrong_message.ensures s st ∙ ap (λ (x : Side). same_effect (takes_time t c.args.frame.now c.args.peer c.args.time x) told) (sym c.in-Local.is ∙ c.side.ensures)
