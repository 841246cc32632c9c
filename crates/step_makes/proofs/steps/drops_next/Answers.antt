-- What the proof of `steps::drops_next` needs beside the tactics.
use Rattle.std.proofs.Common.{sym, ap, ◌∙◌, ◌≡◌}
use Rattle.node_model.specs.JobStep as steps
use Rattle.node_model.specs.Jobs.{Drops}
use Rattle.step_judging.specs.Same.{same_effect}
use Rattle.step_judging.specs.Rules.{effect_of}
use Rattle.job_makes.specs.Turns.{turn_in}
use Rattle.drop_makes.specs.Knowings.{drop_in}
use Rattle.std.specs.Option.{option_copied}
use Rattle.state_jobs.specs.Phases.{part_of}
use Rattle.node_model.specs.SetUp.{SetUp}
use Rattle.node_model.specs.State.{State}
use Rattle.std.proofs.lemmas.Result.{IfOk-weaker}
use Rattle.step_makes.specs.Knowledge.{IsReadBy}
use Rattle.step_makes.proofs.KnowledgeLemmas.{by_known}
use Rattle.job_makes.specs.declared.turn.Turn.{Turn}
use Rattle.state_jobs.specs.declared.phase.Part.{Part}
use Rattle.node_model.specs.Turns.{next_step}
use Rattle.step_makes.proofs.steps.drops_next.Goals as goal

pub returns : goal.returns
returns c =
    let x = c.args.turn.now in
    IfOk-weaker c.judges.result
    (λ b. (s : SetUp) (st : State) → b ≡ same_effect (next_step (drop_in c.known-known.result.now.turn.now c.known-known.result.now.logs.now s st) Drops) (effect_of c.known-known.result.now.turn.now.told.now))
    (λ b. (s : SetUp) (st : State) → IsReadBy x (option_copied c.args.knowing) s st → b ≡ same_effect (next_step (turn_in x s st) (part_of x.work.now.part)) (effect_of x.told.now))
    (λ b told s st read.
    by_known (option_copied c.args.knowing) c.known-known.result.now x s st b (λ (z : Turn) (t : steps.Turn). same_effect (next_step t Drops) (effect_of z.told.now)) c.known-known.ensures c.requires.enough read (told s st)
    ∙ ap (λ (p : Part). same_effect (next_step (turn_in x s st) (part_of p)) (effect_of x.told.now)) (sym c.requires.part))
    c.judges.ensures
