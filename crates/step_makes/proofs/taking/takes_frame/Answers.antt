-- What the proof of `taking::takes_frame` needs beside the tactics.
use Rattle.std.proofs.Common.{sym, ap, ◌∙◌, ◌≡◌}
use Rattle.run_data.specs.declared.entry.FrameText.{FrameText}
use Rattle.step_judging.specs.Same.{same_effect}
use Rattle.step_judging.specs.Rules.{effect_of}
use Rattle.job_makes.specs.Turns.{turn_in}
use Rattle.std.specs.Option.{option_copied}
use Rattle.node_model.specs.SetUp.{SetUp}
use Rattle.node_model.specs.State.{State}
use Rattle.std.proofs.lemmas.Result.{IfOk-weaker}
use Rattle.step_makes.specs.Knowledge.{IsReadBy}
use Rattle.node_model.specs.Turns.{takes_frame, takes_text}
use Rattle.p2p_wire.specs.Messages.{message_of}
use Rattle.step_makes.proofs.taking.takes_frame.Goals as goal

pub returns-in-Opening : goal.returns-in-Opening
returns-in-Opening c = λ s st read. c.wrong_message.ensures s st ∙ ap (λ (o : FrameText). same_effect (takes_frame (turn_in c.args.turn.now s st) c.args.peer c.args.frame.now o) (effect_of c.args.turn.now.told.now)) (sym c.in-Opening.is)

pub returns-in-Closing : goal.returns-in-Closing
returns-in-Closing c = λ s st read. c.hears.ensures s st ∙ ap (λ (o : FrameText). same_effect (takes_frame (turn_in c.args.turn.now s st) c.args.peer c.args.frame.now o) (effect_of c.args.turn.now.told.now)) (sym c.in-Closing.is)

pub returns-in-Bytes : goal.returns-in-Bytes
returns-in-Bytes c = λ s st read. c.takes_bytes.ensures s st ∙ ap (λ (o : FrameText). same_effect (takes_frame (turn_in c.args.turn.now s st) c.args.peer c.args.frame.now o) (effect_of c.args.turn.now.told.now)) (sym c.in-Bytes.is)

pub returns-in-Line : goal.returns-in-Line
returns-in-Line c =
    let x = c.args.turn.now in
    IfOk-weaker c.takes_text.result
    (λ b. (s : SetUp) (st : State) → IsReadBy x (option_copied c.args.knowing) s st → b ≡ same_effect (takes_text (turn_in x s st) c.args.frame.now c.args.peer (message_of c.in-Line.text)) (effect_of x.told.now))
    (λ b. (s : SetUp) (st : State) → IsReadBy x (option_copied c.args.knowing) s st → b ≡ same_effect (takes_frame (turn_in x s st) c.args.peer c.args.frame.now c.args.frame.now.body) (effect_of x.told.now))
    (λ b told s st read. told s st read ∙ ap (λ (o : FrameText). same_effect (takes_frame (turn_in x s st) c.args.peer c.args.frame.now o) (effect_of x.told.now)) (sym c.in-Line.is))
    c.takes_text.ensures
