-- What the proof of `steps::first_step` needs beside the tactics.
use Rattle.std.proofs.Common.{sym, ap, ◌∙◌, ◌≡◌}
use Rattle.node_model.specs.Jobs.{Gets, Puts, side_of}
use Rattle.step_judging.specs.Same.{same_effect}
use Rattle.step_judging.specs.Rules.{effect_of}
use Rattle.job_makes.specs.Turns.{turn_in}
use Rattle.std.specs.Option.{option_copied}
use Rattle.state_jobs.specs.Phases.{part_of}
use Rattle.node_model.specs.SetUp.{SetUp}
use Rattle.node_model.specs.State.{State}
use Rattle.std.proofs.lemmas.Result.{IfOk-weaker}
use Rattle.step_makes.specs.Knowledge.{IsReadBy, IsTurnOf}
use Rattle.state_jobs.specs.declared.phase.Part.{Part}
use Rattle.node_model.specs.DropStep.{first_drop}
use Rattle.node_model.specs.Turns.{first_step}
use Rattle.step_makes.proofs.steps.first_step.Goals as goal

pub returns-in-Gets : goal.returns-in-Gets
returns-in-Gets c =
    let x = c.args.turn.now in
    IfOk-weaker c.gets_first.result
    (λ b. (s : SetUp) (st : State) → IsTurnOf x s st → b ≡ same_effect (first_step (turn_in x s st) Gets) (effect_of x.told.now))
    (λ b. (s : SetUp) (st : State) → IsTurnOf x s st → IsReadBy x (option_copied c.args.knowing) s st → b ≡ same_effect (first_step (turn_in x s st) (part_of x.work.now.part)) (effect_of x.told.now))
    (λ b told s st of read. told s st of ∙ ap (λ (p : Part). same_effect (first_step (turn_in x s st) (part_of p)) (effect_of x.told.now)) (sym c.in-Gets.is))
    c.gets_first.ensures

pub returns-in-Puts : goal.returns-in-Puts
returns-in-Puts c =
    let x = c.args.turn.now in
    IfOk-weaker c.puts_first.result
    (λ b. (s : SetUp) (st : State) → b ≡ same_effect (first_step (turn_in x s st) Puts) (effect_of x.told.now))
    (λ b. (s : SetUp) (st : State) → IsTurnOf x s st → IsReadBy x (option_copied c.args.knowing) s st → b ≡ same_effect (first_step (turn_in x s st) (part_of x.work.now.part)) (effect_of x.told.now))
    (λ b told s st of read. told s st ∙ ap (λ (p : Part). same_effect (first_step (turn_in x s st) (part_of p)) (effect_of x.told.now)) (sym c.in-Puts.is))
    c.puts_first.ensures

pub returns-in-Drops : goal.returns-in-Drops
returns-in-Drops c =
    let x = c.args.turn.now in
    IfOk-weaker c.drops_first.result
    (λ b. (s : SetUp) (st : State) → IsReadBy x (option_copied c.args.knowing) s st → b ≡ same_effect (first_drop (turn_in x s st) (side_of (turn_in x s st).w)) (effect_of x.told.now))
    (λ b. (s : SetUp) (st : State) → IsTurnOf x s st → IsReadBy x (option_copied c.args.knowing) s st → b ≡ same_effect (first_step (turn_in x s st) (part_of x.work.now.part)) (effect_of x.told.now))
    (λ b told s st of read. told s st read ∙ ap (λ (p : Part). same_effect (first_step (turn_in x s st) (part_of p)) (effect_of x.told.now)) (sym c.in-Drops.is))
    c.drops_first.ensures
