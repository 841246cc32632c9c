-- What the proof of `taking::takes` needs beside the tactics.
use Rattle.std.proofs.Common.{ap, ◌∙◌, ◌≡◌}
use Rattle.step_makes.proofs.StepLemmas.{other_answers}
use Rattle.step_judging.specs.Same.{same_effect}
use Rattle.step_judging.specs.Rules.{effect_of}
use Rattle.job_makes.specs.Turns.{turn_in}
use Rattle.std.specs.Option.{option_copied}
use Rattle.state_jobs.specs.Phases.{phase_of, part_of}
use Rattle.node_model.specs.SetUp.{SetUp}
use Rattle.node_model.specs.State.{State}
use Rattle.std.proofs.lemmas.Result.{IfOk-weaker}
use Rattle.step_makes.specs.Knowledge.{IsReadBy}
use Rattle.node_model.specs.Look.{Effect}
use Rattle.node_model.specs.Turns.{takes, takes_answer}
use Rattle.step_makes.proofs.taking.takes.Goals as goal

pub returns-in_default : goal.returns-in_default
returns-in_default c =
    let x = c.args.turn.now in
    IfOk-weaker c.takes_answer.result
    (λ b. (s : SetUp) (st : State) → IsReadBy x (option_copied c.args.knowing) s st → b ≡ same_effect (takes_answer (turn_in x s st) c.args.frame.now c.args.peer (part_of x.work.now.part) (phase_of x.work.now.phase) c.args.message.now) (effect_of x.told.now))
    (λ b. (s : SetUp) (st : State) → IsReadBy x (option_copied c.args.knowing) s st → b ≡ same_effect (takes (turn_in x s st) c.args.frame.now c.args.peer (phase_of x.work.now.phase) c.args.message.now) (effect_of x.told.now))
    (λ b told s st read. told s st read ∙ ap (λ (m : Effect). same_effect m (effect_of x.told.now)) (other_answers (turn_in x s st) c.args.frame.now c.args.peer x.work.now.phase c.args.message.now c.in_default.not-Opens c.in_default.not-Greets))
    c.takes_answer.ensures
