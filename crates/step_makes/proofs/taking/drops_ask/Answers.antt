-- What the proof of `taking::drops_ask` needs beside the tactics.
use Rattle.std.proofs.Common.{sym, ap, Some, ◌∙◌, ◌≡◌}
use Rattle.node_model.specs.JobStep as steps
use Rattle.node_model.specs.Jobs.{Drops, side_of}
use Rattle.step_judging.specs.Same.{same_effect}
use Rattle.step_judging.specs.Rules.{effect_of}
use Rattle.job_makes.specs.Turns.{turn_in}
use Rattle.drop_makes.specs.Knowings.{drop_in}
use Rattle.std.specs.Option.{option_copied}
use Rattle.state_jobs.specs.Phases.{part_of}
use Rattle.node_model.specs.SetUp.{SetUp}
use Rattle.node_model.specs.State.{State}
use Rattle.std.proofs.lemmas.Result.{IfOk-weaker}
use Rattle.step_makes.specs.Knowledge.{IsReadBy}
use Rattle.step_makes.proofs.KnowledgeLemmas.{by_known}
use Rattle.job_makes.specs.declared.turn.Turn.{Turn}
use Rattle.state_jobs.specs.declared.phase.Part.{Part}
use Rattle.node_model.specs.DropStep.{asks_copy}
use Rattle.node_model.specs.Requests.{asks}
use Rattle.step_makes.proofs.taking.drops_ask.Goals as goal

pub returns : goal.returns
returns c =
    let x = c.args.turn.now in
    IfOk-weaker c.asks_copy.result
    (λ b. (s : SetUp) (st : State) → b ≡ same_effect (asks_copy (drop_in c.known-known.result.now.turn.now c.known-known.result.now.logs.now s st) c.args.version (Some c.args.frame.now) c.args.peer (side_of (drop_in c.known-known.result.now.turn.now c.known-known.result.now.logs.now s st).w)) (effect_of c.known-known.result.now.turn.now.told.now))
    (λ b. (s : SetUp) (st : State) → IsReadBy x (option_copied c.args.knowing) s st → b ≡ same_effect (asks (turn_in x s st) c.args.version (Some c.args.frame.now) c.args.peer (part_of x.work.now.part)) (effect_of x.told.now))
    (λ b told s st read.
    by_known (option_copied c.args.knowing) c.known-known.result.now x s st b (λ (z : Turn) (t : steps.Turn). same_effect (asks t c.args.version (Some c.args.frame.now) c.args.peer Drops) (effect_of z.told.now)) c.known-known.ensures c.requires.enough read (told s st)
    ∙ ap (λ (p : Part). same_effect (asks (turn_in x s st) c.args.version (Some c.args.frame.now) c.args.peer (part_of p)) (effect_of x.told.now)) (sym c.requires.part))
    c.asks_copy.ensures
