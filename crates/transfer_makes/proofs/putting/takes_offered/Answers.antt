-- What the proof of `putting::takes_offered` needs beside the tactics.
use Rattle.std.proofs.Common.{sym, ap, ◌∙◌}
use Rattle.p2p_wire.specs.declared.message.Message.{Message}
use Rattle.node_model.specs.Look.{Effect}
use Rattle.node_model.specs.TransferStep.{takes_put}
use Rattle.node_model.specs.Jobs.{PutsOffer}
use Rattle.transfer_makes.proofs.Refused.{offer_refused}
use Rattle.step_judging.specs.Same.{same_effect}
use Rattle.step_judging.specs.Rules.{effect_of}
use Rattle.job_makes.specs.Turns.{turn_in}
use Rattle.transfer_makes.proofs.putting.takes_offered.Goals as goal

pub returns-in-AlreadyHave : goal.returns-in-AlreadyHave
returns-in-AlreadyHave c = λ s st. c.hears.ensures s st ∙ ap (λ (m : Message). same_effect (takes_put (turn_in c.args.turn.now s st) c.args.frame.now c.args.peer (PutsOffer c.args.peer) m) (effect_of c.args.turn.now.told.now)) (sym c.in-AlreadyHave.is)

pub returns-in-Failure : goal.returns-in-Failure
returns-in-Failure c = λ s st. c.hears-in-Failure.ensures s st ∙ ap (λ (m : Message). same_effect (takes_put (turn_in c.args.turn.now s st) c.args.frame.now c.args.peer (PutsOffer c.args.peer) m) (effect_of c.args.turn.now.told.now)) (sym c.in-Failure.is)

pub returns-in-Error : goal.returns-in-Error
returns-in-Error c = λ s st. c.hears_error.ensures s st ∙ ap (λ (m : Message). same_effect (takes_put (turn_in c.args.turn.now s st) c.args.frame.now c.args.peer (PutsOffer c.args.peer) m) (effect_of c.args.turn.now.told.now)) (sym c.in-Error.is)

pub returns-in-PutFrom : goal.returns-in-PutFrom
returns-in-PutFrom c = λ s st. c.puts_from.ensures s st ∙ ap (λ (m : Message). same_effect (takes_put (turn_in c.args.turn.now s st) c.args.frame.now c.args.peer (PutsOffer c.args.peer) m) (effect_of c.args.turn.now.told.now)) (sym c.in-PutFrom.is)

pub returns-in_default : goal.returns-in_default
returns-in_default c = λ s st.
    c.wrong_message.ensures s st ∙ ap (λ (m : Effect). same_effect m (effect_of c.args.turn.now.told.now)) (offer_refused (turn_in c.args.turn.now s st) c.args.frame.now c.args.peer c.args.peer c.args.message.now c.in_default.not-AlreadyHave c.in_default.not-Failure c.in_default.not-Error c.in_default.not-PutFrom)
