-- What the proof of `steps::next_step` needs beside the tactics.
use Rattle.std.proofs.Common.{◌≡◌}
use Rattle.step_judging.specs.Same.{same_effect}
use Rattle.step_judging.specs.Rules.{effect_of}
use Rattle.job_makes.specs.Turns.{turn_in}
use Rattle.std.specs.Option.{option_copied}
use Rattle.state_jobs.specs.Phases.{part_of}
use Rattle.node_model.specs.SetUp.{SetUp}
use Rattle.node_model.specs.State.{State}
use Rattle.std.proofs.lemmas.Result.{IfOk-weaker}
use Rattle.step_makes.specs.Knowledge.{IsReadBy}
use Rattle.node_model.specs.Turns.{next_step}
use Rattle.step_makes.proofs.steps.next_step.Goals as goal

pub returns-in_default : goal.returns-in_default
returns-in_default c =
    let x = c.args.turn.now in
    IfOk-weaker c.transfers_next.result
    (λ b. (s : SetUp) (st : State) → b ≡ same_effect (next_step (turn_in x s st) (part_of x.work.now.part)) (effect_of x.told.now))
    (λ b. (s : SetUp) (st : State) → IsReadBy x (option_copied c.args.knowing) s st → b ≡ same_effect (next_step (turn_in x s st) (part_of x.work.now.part)) (effect_of x.told.now))
    (λ b told s st read. told s st)
    c.transfers_next.ensures
