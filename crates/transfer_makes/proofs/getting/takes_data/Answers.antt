-- What the proof of `getting::takes_data` needs beside the tactics.
use Rattle.std.proofs.Common.{sym, ap, ◌∙◌}
use Rattle.p2p_wire.specs.declared.message.Message.{Message}
use Rattle.node_model.specs.Look.{Effect}
use Rattle.node_model.specs.TransferStep.{takes_get}
use Rattle.node_model.specs.Jobs.{GetsData}
use Rattle.transfer_makes.proofs.Refused.{data_refused}
use Rattle.step_judging.specs.Same.{same_effect}
use Rattle.step_judging.specs.Rules.{effect_of}
use Rattle.job_makes.specs.Turns.{turn_in}
use Rattle.transfer_makes.proofs.getting.takes_data.Goals as goal

pub returns-in-Data : goal.returns-in-Data
returns-in-Data c = λ s st.
    c.hears.ensures s st ∙ ap (λ (m : Message). same_effect (takes_get (turn_in c.args.turn.now s st) c.args.frame.now c.args.peer (GetsData c.args.peer 0) m) (effect_of c.args.turn.now.told.now)) (sym c.in-Data.is)

pub returns-in_default : goal.returns-in_default
returns-in_default c = λ s st.
    c.wrong_message.ensures s st ∙ ap (λ (m : Effect). same_effect m (effect_of c.args.turn.now.told.now)) (data_refused (turn_in c.args.turn.now s st) c.args.frame.now c.args.peer c.args.peer 0 c.args.message.now c.in_default.not-Data)
