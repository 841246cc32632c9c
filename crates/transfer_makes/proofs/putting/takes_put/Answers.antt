-- What the proof of `putting::takes_put` needs beside the tactics.
use Rattle.std.proofs.Common.{sym, ap, ◌∙◌}
use Rattle.node_model.specs.Look.{Effect}
use Rattle.state_jobs.specs.declared.phase.Phase.{Phase}
use Rattle.node_model.specs.TransferStep.{takes_put}
use Rattle.transfer_makes.proofs.Refused.{put_refused}
use Rattle.step_judging.specs.Same.{same_effect}
use Rattle.step_judging.specs.Rules.{effect_of}
use Rattle.job_makes.specs.Turns.{turn_in}
use Rattle.state_jobs.specs.Phases.{phase_of}
use Rattle.transfer_makes.proofs.putting.takes_put.Goals as goal

pub returns-in-PutsOffer : goal.returns-in-PutsOffer
returns-in-PutsOffer c = λ s st. c.takes_offered.ensures s st ∙ ap (λ (p : Phase). same_effect (takes_put (turn_in c.args.turn.now s st) c.args.frame.now c.args.peer (phase_of p) c.args.message.now) (effect_of c.args.turn.now.told.now)) (sym c.in-PutsOffer.is)

pub returns-in-PutsAnswer : goal.returns-in-PutsAnswer
returns-in-PutsAnswer c = λ s st. c.takes_verdict.ensures s st ∙ ap (λ (p : Phase). same_effect (takes_put (turn_in c.args.turn.now s st) c.args.frame.now c.args.peer (phase_of p) c.args.message.now) (effect_of c.args.turn.now.told.now)) (sym c.in-PutsAnswer.is)

pub returns-in_default : goal.returns-in_default
returns-in_default c = λ s st.
    c.wrong_message.ensures s st ∙ ap (λ (m : Effect). same_effect m (effect_of c.args.turn.now.told.now)) (put_refused (turn_in c.args.turn.now s st) c.args.frame.now c.args.peer c.args.phase c.args.message.now c.in_default.not-PutsOffer c.in_default.not-PutsAnswer)
