-- What the proof of `knowing::Knowing::takes_drop` needs beside the tactics.
use Rattle.std.proofs.Common.{◌≡◌, Bool, sym, ap, subst, ◌∙◌}
use Rattle.std.specs.Prelude.{IfOk}
use Rattle.node_model.specs.Look.{Effect}
use Rattle.node_model.specs.SetUp.{SetUp}
use Rattle.node_model.specs.State.{State}
use Rattle.drop_makes.specs.Answers.{step_by}
use Rattle.drop_makes.specs.declared.answers.Answer.{Answer}
use Rattle.step_judging.specs.Rules.{effect_of}
use Rattle.step_judging.specs.Same.{same_effect}
use Rattle.drop_makes.specs.Knowings.{drop_in}
use Rattle.drop_makes.proofs.knowing.Knowing.takes_drop.Goals as goal

pub returns-in-Heard : goal.returns-in-Heard
returns-in-Heard c = λ s st.
    let k = c.args.self.now in
    let t = drop_in k.turn.now k.logs.now s st in
    let told = effect_of k.turn.now.told.now in
    c.hears.ensures s st ∙ ap (λ (m : Effect). same_effect m told) (sym (c.answer_in.ensures t c.args.frame.now c.args.peer ∙ ap (λ (a : Answer). step_by a t c.args.frame.now c.args.peer) c.in-Heard.is))

pub returns-in-Unlocked : goal.returns-in-Unlocked
returns-in-Unlocked c =
    let k = c.args.self.now in
    subst (λ (m : SetUp → State → Effect). IfOk c.asks_look.result (λ (b : Bool). (s : SetUp) (st : State) → b ≡ same_effect (m s st) (effect_of k.turn.now.told.now)))
    (λ i. λ s st. let t = drop_in k.turn.now k.logs.now s st in sym (c.answer_in.ensures t c.args.frame.now c.args.peer ∙ ap (λ (a : Answer). step_by a t c.args.frame.now c.args.peer) c.in-Unlocked.is) i) c.asks_look.ensures

pub returns-in-Timed : goal.returns-in-Timed
returns-in-Timed c = λ s st.
    let k = c.args.self.now in
    let t = drop_in k.turn.now k.logs.now s st in
    let told = effect_of k.turn.now.told.now in
    c.takes_time.ensures s st ∙ ap (λ (m : Effect). same_effect m told) (sym (c.answer_in.ensures t c.args.frame.now c.args.peer ∙ ap (λ (a : Answer). step_by a t c.args.frame.now c.args.peer) c.in-Timed.is))

pub returns-in-Wrong : goal.returns-in-Wrong
returns-in-Wrong c = λ s st.
    let k = c.args.self.now in
    let t = drop_in k.turn.now k.logs.now s st in
    let told = effect_of k.turn.now.told.now in
    c.wrong_message.ensures s st ∙ ap (λ (m : Effect). same_effect m told) (sym (c.answer_in.ensures t c.args.frame.now c.args.peer ∙ ap (λ (a : Answer). step_by a t c.args.frame.now c.args.peer) c.in-Wrong.is))
