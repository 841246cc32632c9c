-- What the proof of `steps::drops_first` needs beside the tactics.
use Rattle.std.proofs.Common.{◌≡◌}
use Rattle.node_model.specs.JobStep as steps
use Rattle.step_judging.specs.Same.{same_effect}
use Rattle.step_judging.specs.Rules.{effect_of}
use Rattle.job_makes.specs.Turns.{turn_in}
use Rattle.drop_makes.specs.Knowings.{drop_in}
use Rattle.std.specs.Option.{option_copied}
use Rattle.node_model.specs.SetUp.{SetUp}
use Rattle.node_model.specs.State.{State}
use Rattle.std.proofs.lemmas.Result.{IfOk-weaker}
use Rattle.step_makes.specs.Knowledge.{IsReadBy}
use Rattle.step_makes.proofs.KnowledgeLemmas.{by_known}
use Rattle.job_makes.specs.declared.turn.Turn.{Turn}
use Rattle.node_model.specs.DropStep.{first_drop}
use Rattle.node_model.specs.Jobs.{side_of}
use Rattle.step_makes.proofs.steps.drops_first.Goals as goal

pub returns : goal.returns
returns c =
    let x = c.args.turn.now in
    IfOk-weaker c.first_drop.result
    (λ b. (s : SetUp) (st : State) → b ≡ same_effect (first_drop (drop_in c.known-known.result.now.turn.now c.known-known.result.now.logs.now s st) (side_of (drop_in c.known-known.result.now.turn.now c.known-known.result.now.logs.now s st).w)) (effect_of c.known-known.result.now.turn.now.told.now))
    (λ b. (s : SetUp) (st : State) → IsReadBy x (option_copied c.args.knowing) s st → b ≡ same_effect (first_drop (turn_in x s st) (side_of (turn_in x s st).w)) (effect_of x.told.now))
    (λ b told s st read.
    by_known (option_copied c.args.knowing) c.known-known.result.now x s st b (λ (z : Turn) (t : steps.Turn). same_effect (first_drop t (side_of t.w)) (effect_of z.told.now)) c.known-known.ensures c.requires.enough read (told s st))
    c.first_drop.ensures
