-- What the proof of `getting::takes_get` needs beside the tactics.
use Rattle.std.proofs.Common.{sym, ap, ◌∙◌}
use Rattle.node_model.specs.Look.{Effect}
use Rattle.state_jobs.specs.declared.phase.Phase.{Phase}
use Rattle.node_model.specs.TransferStep.{takes_get}
use Rattle.transfer_makes.proofs.Refused.{get_refused}
use Rattle.step_judging.specs.Same.{same_effect}
use Rattle.step_judging.specs.Rules.{effect_of}
use Rattle.job_makes.specs.Turns.{turn_in}
use Rattle.state_jobs.specs.Phases.{phase_of}
use Rattle.transfer_makes.proofs.getting.takes_get.Goals as goal

pub returns-in-GetsData : goal.returns-in-GetsData
returns-in-GetsData c = λ s st.
    c.takes_data.ensures s st
    ∙ ap (λ (p : Phase). same_effect (takes_get (turn_in c.args.turn.now s st) c.args.frame.now c.args.peer (phase_of p) c.args.message.now) (effect_of c.args.turn.now.told.now)) (sym c.in-GetsData.is)

pub returns-in-GetsWord : goal.returns-in-GetsWord
returns-in-GetsWord c = λ s st.
    c.takes_word.ensures s st
    ∙ ap (λ (p : Phase). same_effect (takes_get (turn_in c.args.turn.now s st) c.args.frame.now c.args.peer (phase_of p) c.args.message.now) (effect_of c.args.turn.now.told.now)) (sym c.in-GetsWord.is)

pub returns-in_default : goal.returns-in_default
returns-in_default c = λ s st.
    c.wrong_message.ensures s st ∙ ap (λ (m : Effect). same_effect m (effect_of c.args.turn.now.told.now)) (get_refused (turn_in c.args.turn.now s st) c.args.frame.now c.args.peer c.args.phase c.args.message.now c.in_default.not-GetsData c.in_default.not-GetsWord)
