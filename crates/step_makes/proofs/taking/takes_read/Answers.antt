-- What the proof of `taking::takes_read` needs beside the tactics.
use Rattle.std.proofs.Common.{sym, ap, Option, ◌∙◌, ◌≡◌}
use Rattle.step_judging.specs.Same.{same_effect}
use Rattle.step_judging.specs.Rules.{effect_of}
use Rattle.job_makes.specs.Turns.{turn_in}
use Rattle.std.specs.Option.{option_copied}
use Rattle.state_jobs.specs.Phases.{phase_of}
use Rattle.node_model.specs.SetUp.{SetUp}
use Rattle.node_model.specs.State.{State}
use Rattle.std.proofs.lemmas.Result.{IfOk-weaker}
use Rattle.step_makes.specs.Knowledge.{IsReadBy}
use Rattle.p2p_wire.specs.declared.message.Message.{Message}
use Rattle.node_model.specs.Turns.{takes, takes_text}
use Rattle.step_makes.proofs.taking.takes_read.Goals as goal

pub returns-in-Some : goal.returns-in-Some
returns-in-Some c =
    let x = c.args.turn.now in
    IfOk-weaker c.takes.result
    (λ b. (s : SetUp) (st : State) → IsReadBy x (option_copied c.args.knowing) s st → b ≡ same_effect (takes (turn_in x s st) c.args.frame.now c.args.peer (phase_of x.work.now.phase) c.in-Some.message) (effect_of x.told.now))
    (λ b. (s : SetUp) (st : State) → IsReadBy x (option_copied c.args.knowing) s st → b ≡ same_effect (takes_text (turn_in x s st) c.args.frame.now c.args.peer c.args.read.now) (effect_of x.told.now))
    (λ b told s st read. told s st read ∙ ap (λ (o : Option Message). same_effect (takes_text (turn_in x s st) c.args.frame.now c.args.peer o) (effect_of x.told.now)) (sym c.in-Some.is))
    c.takes.ensures

pub returns-in-None : goal.returns-in-None
returns-in-None c = λ s st read. c.wrong_message.ensures s st ∙ ap (λ (o : Option Message). same_effect (takes_text (turn_in c.args.turn.now s st) c.args.frame.now c.args.peer o) (effect_of c.args.turn.now.told.now)) (sym c.in-None.is)
