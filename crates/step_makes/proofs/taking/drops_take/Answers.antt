-- What the proof of `taking::drops_take` needs beside the tactics.
use Rattle.std.proofs.Common.{◌≡◌}
use Rattle.node_model.specs.JobStep as steps
use Rattle.step_judging.specs.Same.{same_effect}
use Rattle.step_judging.specs.Rules.{effect_of}
use Rattle.job_makes.specs.Turns.{turn_in}
use Rattle.drop_makes.specs.Knowings.{drop_in}
use Rattle.std.specs.Option.{option_copied}
use Rattle.state_jobs.specs.Phases.{phase_of}
use Rattle.node_model.specs.SetUp.{SetUp}
use Rattle.node_model.specs.State.{State}
use Rattle.std.proofs.lemmas.Result.{IfOk-weaker}
use Rattle.step_makes.specs.Knowledge.{IsReadBy}
use Rattle.step_makes.proofs.KnowledgeLemmas.{by_known}
use Rattle.job_makes.specs.declared.turn.Turn.{Turn}
use Rattle.node_model.specs.DropStep.{takes_drop}
use Rattle.step_makes.proofs.taking.drops_take.Goals as goal

pub returns : goal.returns
returns c =
    let x = c.args.turn.now in
    IfOk-weaker c.takes_drop.result
    (λ b. (s : SetUp) (st : State) → b ≡ same_effect (takes_drop (drop_in c.known-known.result.now.turn.now c.known-known.result.now.logs.now s st) c.args.frame.now c.args.peer (drop_in c.known-known.result.now.turn.now c.known-known.result.now.logs.now s st).w.phase c.args.message.now) (effect_of c.known-known.result.now.turn.now.told.now))
    (λ b. (s : SetUp) (st : State) → IsReadBy x (option_copied c.args.knowing) s st → b ≡ same_effect (takes_drop (turn_in x s st) c.args.frame.now c.args.peer (phase_of x.work.now.phase) c.args.message.now) (effect_of x.told.now))
    (λ b told s st read.
    by_known (option_copied c.args.knowing) c.known-known.result.now x s st b (λ (z : Turn) (t : steps.Turn). same_effect (takes_drop t c.args.frame.now c.args.peer t.w.phase c.args.message.now) (effect_of z.told.now)) c.known-known.ensures c.requires.enough read (told s st))
    c.takes_drop.ensures
