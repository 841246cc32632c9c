-- What the proof of `taking::takes_answer` needs beside the tactics.
use Rattle.std.proofs.Common.{sym, ap, ◌∙◌, ◌≡◌}
use Rattle.step_judging.specs.Same.{same_effect}
use Rattle.step_judging.specs.Rules.{effect_of}
use Rattle.job_makes.specs.Turns.{turn_in}
use Rattle.std.specs.Option.{option_copied}
use Rattle.state_jobs.specs.Phases.{phase_of, part_of}
use Rattle.node_model.specs.SetUp.{SetUp}
use Rattle.node_model.specs.State.{State}
use Rattle.std.proofs.lemmas.Result.{IfOk-weaker}
use Rattle.step_makes.specs.Knowledge.{IsReadBy}
use Rattle.state_jobs.specs.declared.phase.Part.{Part}
use Rattle.node_model.specs.DropStep.{takes_drop}
use Rattle.node_model.specs.Turns.{takes_answer}
use Rattle.step_makes.proofs.taking.takes_answer.Goals as goal

pub returns-in-Gets : goal.returns-in-Gets
returns-in-Gets c = λ s st read. c.takes_get.ensures s st ∙ ap (λ (p : Part). same_effect (takes_answer (turn_in c.args.turn.now s st) c.args.frame.now c.args.peer (part_of p) (phase_of c.args.turn.now.work.now.phase) c.args.message.now) (effect_of c.args.turn.now.told.now)) (sym c.in-Gets.is)

pub returns-in-Puts : goal.returns-in-Puts
returns-in-Puts c = λ s st read. c.takes_put.ensures s st ∙ ap (λ (p : Part). same_effect (takes_answer (turn_in c.args.turn.now s st) c.args.frame.now c.args.peer (part_of p) (phase_of c.args.turn.now.work.now.phase) c.args.message.now) (effect_of c.args.turn.now.told.now)) (sym c.in-Puts.is)

pub returns-in-Drops : goal.returns-in-Drops
returns-in-Drops c =
    let x = c.args.turn.now in
    IfOk-weaker c.drops_take.result
    (λ b. (s : SetUp) (st : State) → IsReadBy x (option_copied c.args.knowing) s st → b ≡ same_effect (takes_drop (turn_in x s st) c.args.frame.now c.args.peer (phase_of x.work.now.phase) c.args.message.now) (effect_of x.told.now))
    (λ b. (s : SetUp) (st : State) → IsReadBy x (option_copied c.args.knowing) s st → b ≡ same_effect (takes_answer (turn_in x s st) c.args.frame.now c.args.peer (part_of x.work.now.part) (phase_of c.args.turn.now.work.now.phase) c.args.message.now) (effect_of x.told.now))
    (λ b told s st read. told s st read ∙ ap (λ (p : Part). same_effect (takes_answer (turn_in x s st) c.args.frame.now c.args.peer (part_of p) (phase_of c.args.turn.now.work.now.phase) c.args.message.now) (effect_of x.told.now)) (sym c.in-Drops.is))
    c.drops_take.ensures
