-- What the proof of `getting::takes_word` needs beside the tactics.
use Rattle.std.proofs.Common.{sym, ap, ◌∙◌}
use Rattle.p2p_wire.specs.declared.message.Message.{Message}
use Rattle.node_model.specs.Look.{Effect}
use Rattle.node_model.specs.JobStep.{talk}
use Rattle.node_model.specs.TransferStep.{takes_get}
use Rattle.node_model.specs.Jobs.{GetsWord}
use Rattle.transfer_makes.proofs.Refused.{word_refused}
use Rattle.step_judging.specs.Same.{same_effect}
use Rattle.step_judging.specs.Rules.{effect_of}
use Rattle.job_makes.specs.Turns.{turn_in}
use Rattle.transfer_makes.proofs.getting.takes_word.Goals as goal

pub returns-in-Valid : goal.returns-in-Valid
returns-in-Valid c = λ s st.
    c.commits.ensures s st
    ∙ ap (λ (m : Message). same_effect (takes_get (turn_in c.args.turn.now s st) c.args.frame.now c.args.peer (GetsWord c.args.peer 0 c.args.size) m) (effect_of c.args.turn.now.told.now)) (sym c.in-Valid.is)

pub returns-in-Invalid : goal.returns-in-Invalid
returns-in-Invalid c = λ s st.
    let t = turn_in c.args.turn.now s st in
    c.says_to.ensures s st (talk t) (c.talks.ensures s st)
    ∙ ap (λ (m : Message). same_effect (takes_get t c.args.frame.now c.args.peer (GetsWord c.args.peer 0 c.args.size) m) (effect_of c.args.turn.now.told.now)) (sym c.in-Invalid.is)

pub returns-in_default : goal.returns-in_default
returns-in_default c = λ s st.
    c.wrong_message.ensures s st ∙ ap (λ (m : Effect). same_effect m (effect_of c.args.turn.now.told.now)) (word_refused (turn_in c.args.turn.now s st) c.args.frame.now c.args.peer c.args.peer 0 c.args.size c.args.message.now c.in_default.not-Valid c.in_default.not-Invalid)
