-- What the proof of `getting::commits` needs beside the tactics.
use Rattle.std.proofs.Common.{Bool, ap, ◌∙◌}
use Rattle.node_model.specs.Calls.{to_commit}
use Rattle.node_model.specs.Look.{failing_call}
use Rattle.node_model.specs.TransferStep.{gains}
use Rattle.step_judging.specs.Same.{same_effect}
use Rattle.step_judging.specs.Rules.{effect_of}
use Rattle.job_makes.specs.Turns.{turn_in}
use Rattle.transfer_makes.proofs.getting.commits.Goals as goal

pub returns : goal.returns
returns c = λ s st.
    let t = turn_in c.args.turn.now s st in
    let told = effect_of c.args.turn.now.told.now in
    let right = c.matches_told-right.ensures in
    c.attempts.ensures s st (to_commit t.look.right) (gains t c.args.frame.now c.args.peer c.args.size t.look.right)
    (c.failing_commit.ensures s st ∙ ap (λ (b : Bool). failing_call t.look.fails (to_commit b)) right)
    (c.gains-made.ensures s st ∙ ap (λ (b : Bool). same_effect (gains t c.args.frame.now c.args.peer c.args.size b) told) right)
