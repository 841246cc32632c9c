-- What the proof of `knowing::Knowing::takes_far_time` needs beside the tactics.
use Rattle.std.proofs.Common.{Bool, if◌then◌else◌, sym, ap, ◌∙◌}
use Rattle.node_model.specs.DropStep.{first_end, times}
use Rattle.node_model.specs.JobStep.{wrong_message}
use Rattle.step_judging.specs.Rules.{effect_of}
use Rattle.step_judging.specs.Same.{same_effect}
use Rattle.drop_makes.specs.Knowings.{drop_in}
use Rattle.drop_makes.proofs.knowing.Knowing.takes_far_time.Goals as goal

pub returns-then-is_small : goal.returns-then-is_small
returns-then-is_small c = λ s st.
    let k = c.args.self.now in
    let t = drop_in k.turn.now k.logs.now s st in
    let told = effect_of k.turn.now.told.now in
    c.times.ensures s st
    ∙ ap (λ (b : Bool). same_effect (if b then times t c.args.frame.now c.args.time (first_end t) else wrong_message t c.args.frame.now c.args.peer) told) (sym c.if-is_small.true ∙ c.is_small.ensures)

pub returns-else-is_small : goal.returns-else-is_small
returns-else-is_small c = λ s st.
    let k = c.args.self.now in
    let t = drop_in k.turn.now k.logs.now s st in
    let told = effect_of k.turn.now.told.now in
    c.wrong_message.ensures s st
    ∙ ap (λ (b : Bool). same_effect (if b then times t c.args.frame.now c.args.time (first_end t) else wrong_message t c.args.frame.now c.args.peer) told) (sym c.if-is_small.false ∙ c.is_small.ensures)
