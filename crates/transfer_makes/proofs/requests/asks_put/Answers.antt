-- What the proof of `requests::asks_put` needs beside the tactics.
use Rattle.std.proofs.Common.{◌∙◌}
use Rattle.node_model.specs.JobStep.{says_to, talk}
use Rattle.p2p_wire.specs.declared.message.Message.TheVariants.{Put}
use Rattle.step_judging.specs.Same.{same_effect}
use Rattle.step_judging.specs.Rules.{effect_of}
use Rattle.job_makes.specs.Turns.{turn_in}
use Rattle.std.specs.Option.{option_copied}
use Rattle.transfer_makes.proofs.requests.asks_put.Goals as goal

pub returns : goal.returns
returns c = λ s st version.
    let t = turn_in c.args.turn.now s st in
    c.says_to.ensures s st (talk t) (c.talks.ensures s st)
    ∙ (λ i. same_effect (says_to t (talk t) (option_copied c.args.taken) c.args.peer (Put (c.in_ok-file.ensures i) (c.in_ok-key.ensures i))) (effect_of c.args.turn.now.told.now))
