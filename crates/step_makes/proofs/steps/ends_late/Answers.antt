-- What the proof of `steps::ends_late` needs beside the tactics.
use Rattle.std.proofs.Common.{None}
use Rattle.node_model.specs.JobStep as steps
use Rattle.step_judging.specs.Same.{same_effect}
use Rattle.step_judging.specs.Rules.{effect_of}
use Rattle.std.specs.Option.{option_copied}
use Rattle.step_makes.proofs.KnowledgeLemmas.{by_known}
use Rattle.job_makes.specs.declared.turn.Turn.{Turn}
use Rattle.node_model.specs.JobStep.{ends}
use Rattle.node_model.specs.DropStep.{expiry, first_end}
use Rattle.step_makes.proofs.steps.ends_late.Goals as goal

pub returns : goal.returns
returns c = λ s st read.
    by_known (option_copied c.args.knowing) c.known-known.result.now c.args.turn.now s st c.expires.result (λ (z : Turn) (t : steps.Turn). same_effect (ends t None (expiry (t.clock c.args.time) (first_end t))) (effect_of z.told.now)) c.known-known.ensures c.requires.enough read
    (c.expires.ensures s st)
