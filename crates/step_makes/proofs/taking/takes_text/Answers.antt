-- What the proof of `taking::takes_text` needs beside the tactics.
use Rattle.std.proofs.Common.{ap, Option, ◌∙◌, ◌≡◌}
use Rattle.step_judging.specs.Same.{same_effect}
use Rattle.step_judging.specs.Rules.{effect_of}
use Rattle.job_makes.specs.Turns.{turn_in}
use Rattle.std.specs.Option.{option_copied}
use Rattle.node_model.specs.SetUp.{SetUp}
use Rattle.node_model.specs.State.{State}
use Rattle.std.proofs.lemmas.Result.{IfOk-weaker}
use Rattle.step_makes.specs.Knowledge.{IsReadBy}
use Rattle.p2p_wire.specs.declared.message.Message.{Message}
use Rattle.node_model.specs.Turns.{takes_text}
use Rattle.p2p_wire.specs.Messages.{message_of}
use Rattle.step_makes.proofs.taking.takes_text.Goals as goal

pub returns : goal.returns
returns c =
    let x = c.args.turn.now in
    IfOk-weaker c.takes_read.result
    (λ b. (s : SetUp) (st : State) → IsReadBy x (option_copied c.args.knowing) s st → b ≡ same_effect (takes_text (turn_in x s st) c.args.frame.now c.args.peer c.in_ok-read.read) (effect_of x.told.now))
    (λ b. (s : SetUp) (st : State) → IsReadBy x (option_copied c.args.knowing) s st → b ≡ same_effect (takes_text (turn_in x s st) c.args.frame.now c.args.peer (message_of c.args.text.now)) (effect_of x.told.now))
    (λ b told s st read. told s st read ∙ ap (λ (o : Option Message). same_effect (takes_text (turn_in x s st) c.args.frame.now c.args.peer o) (effect_of x.told.now)) (c.in_ok-read.ensures ∙ ap message_of c.bytes.ensures))
    c.takes_read.ensures
