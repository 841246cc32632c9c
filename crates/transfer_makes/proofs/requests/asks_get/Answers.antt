-- What the proof of `requests::asks_get` needs beside the tactics.
use Rattle.std.proofs.Common.{◌≡◌, [], ◌∙◌}
use Rattle.node_model.specs.JobStep.{key_of, says_to, talk}
use Rattle.node_model.specs.Calls.{to_resume}
use Rattle.p2p_wire.specs.declared.message.Message.TheVariants.{Get}
use Rattle.step_judging.specs.Same.{same_effect}
use Rattle.step_judging.specs.Rules.{effect_of}
use Rattle.job_makes.specs.Turns.{turn_in}
use Rattle.std.specs.Option.{option_copied}
use Rattle.transfer_makes.proofs.requests.asks_get.Goals as goal

pub returns : goal.returns
returns c = λ s st version.
    let t = turn_in c.args.turn.now s st in
    let told = effect_of c.args.turn.now.told.now in
    let taken = option_copied c.args.taken in
    let said : c.says_to-said.result ≡ same_effect (says_to t (talk t) taken c.args.peer (Get t.look.part [] (key_of t))) told =
    c.says_to-said.ensures s st (talk t) (c.talks.ensures s st)
    ∙ (λ i. same_effect (says_to t (talk t) taken c.args.peer (Get (c.part_told-start.ensures.value i) (c.in_ok-file.ensures i) (c.in_ok-key.ensures i))) told) in
    c.attempts.ensures s st (to_resume t.look.part) (says_to t (talk t) taken c.args.peer (Get t.look.part [] (key_of t))) (c.failing_resume-failing.ensures s st) said
