-- What the proof of `taking::takes_opened` needs beside the tactics.
use Rattle.std.proofs.Common.{sym, ap, ◌∙◌, ◌≡◌}
use Rattle.step_makes.proofs.StepLemmas.{opened_answers}
use Rattle.step_judging.specs.Same.{same_effect}
use Rattle.step_judging.specs.Rules.{effect_of}
use Rattle.job_makes.specs.Turns.{turn_in}
use Rattle.std.specs.Option.{option_copied}
use Rattle.state_jobs.specs.Phases.{phase_of, part_of}
use Rattle.node_model.specs.SetUp.{SetUp}
use Rattle.node_model.specs.State.{State}
use Rattle.std.proofs.lemmas.Result.{IfOk-weaker}
use Rattle.step_makes.specs.Knowledge.{IsReadBy}
use Rattle.node_model.specs.Look.{Effect}
use Rattle.node_model.specs.JobStep.{talk}
use Rattle.node_model.specs.Turns.{takes, takes_answer}
use Rattle.step_makes.proofs.taking.takes_opened.Goals as goal

pub returns-in-AuthSuccess : goal.returns-in-AuthSuccess
returns-in-AuthSuccess c = λ s st read.
    let t = turn_in c.args.turn.now s st in
    c.says_to.ensures s st (talk t) (c.talks.ensures s st)
    ∙ (λ i. same_effect (takes t c.args.frame.now c.args.peer (phase_of (sym c.requires.phase i)) (sym c.in-AuthSuccess.is i)) (effect_of c.args.turn.now.told.now))

pub returns-in_default : goal.returns-in_default
returns-in_default c =
    let x = c.args.turn.now in
    IfOk-weaker c.takes_answer.result
    (λ b. (s : SetUp) (st : State) → IsReadBy x (option_copied c.args.knowing) s st → b ≡ same_effect (takes_answer (turn_in x s st) c.args.frame.now c.args.peer (part_of x.work.now.part) (phase_of x.work.now.phase) c.args.message.now) (effect_of x.told.now))
    (λ b. (s : SetUp) (st : State) → IsReadBy x (option_copied c.args.knowing) s st → b ≡ same_effect (takes (turn_in x s st) c.args.frame.now c.args.peer (phase_of x.work.now.phase) c.args.message.now) (effect_of x.told.now))
    (λ b told s st read. told s st read ∙ ap (λ (m : Effect). same_effect m (effect_of x.told.now)) (opened_answers (turn_in x s st) c.args.frame.now c.args.peer x.work.now.phase c.args.at c.args.message.now c.requires.phase c.in_default.not-AuthSuccess))
    c.takes_answer.ensures
