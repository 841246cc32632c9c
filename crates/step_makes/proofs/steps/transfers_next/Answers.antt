-- What the proof of `steps::transfers_next` needs beside the tactics.
use Rattle.std.proofs.Common.{ap, ℕ, Option, ◌∙◌, ◌≡◌}
use Rattle.step_makes.proofs.StepLemmas.{next_transfers}
use Rattle.step_judging.specs.Same.{same_effect}
use Rattle.step_judging.specs.Rules.{effect_of}
use Rattle.job_makes.specs.Turns.{turn_in}
use Rattle.state_jobs.specs.Phases.{part_of}
use Rattle.node_model.specs.SetUp.{SetUp}
use Rattle.node_model.specs.State.{State}
use Rattle.std.proofs.lemmas.Result.{IfOk-weaker}
use Rattle.node_model.specs.Look.{Effect}
use Rattle.node_model.specs.TransferStep.{next_get}
use Rattle.node_model.specs.Turns.{next_step}
use Rattle.step_makes.proofs.steps.transfers_next.Goals as goal

pub returns : goal.returns
returns c =
    let x = c.args.turn.now in
    IfOk-weaker c.next_get.result
    (λ b. (s : SetUp) (st : State) → b ≡ same_effect (next_get (turn_in x s st) c.next_source-source.result) (effect_of x.told.now))
    (λ b. (s : SetUp) (st : State) → b ≡ same_effect (next_step (turn_in x s st) (part_of x.work.now.part)) (effect_of x.told.now))
    (λ b told s st.
    told s st
    ∙ ap (λ (o : Option ℕ). same_effect (next_get (turn_in x s st) o) (effect_of x.told.now)) (c.next_source-source.ensures s st)
    ∙ ap (λ (m : Effect). same_effect m (effect_of x.told.now)) (next_transfers (turn_in x s st) x.work.now.part c.requires))
    c.next_get.ensures
