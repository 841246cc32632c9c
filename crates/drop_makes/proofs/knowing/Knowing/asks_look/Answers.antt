-- What the proof of `knowing::Knowing::asks_look` needs beside the tactics.
use Rattle.std.proofs.Common.{ℕ, List, Some, ap, ◌∙◌}
use Rattle.p2p_wire.specs.declared.message.Message.TheVariants.{CheckPresent}
use Rattle.node_model.specs.JobStep.{says_to, talk}
use Rattle.step_judging.specs.Rules.{effect_of}
use Rattle.step_judging.specs.Same.{same_effect}
use Rattle.drop_makes.specs.Knowings.{drop_in}
use Rattle.drop_makes.proofs.knowing.Knowing.asks_look.Goals as goal

pub returns : goal.returns
returns c = λ s st.
    let k = c.args.self.now in
    let t = drop_in k.turn.now k.logs.now s st in
    let told = effect_of k.turn.now.told.now in
    c.says_to.ensures s st (talk t) (c.talks.ensures s st)
    ∙ ap (λ (key : List ℕ). same_effect (says_to t (talk t) (Some c.args.frame.now) c.args.peer (CheckPresent key)) told) (c.in_ok-copy.ensures ∙ c.key.ensures s st)
