-- What the proof of `turn::Turn::ends_freely` needs beside the tactics.
use Rattle.std.proofs.Common.{Bool, if◌then◌else◌, [], sym, ap, ◌∙◌}
use Rattle.node_model.specs.JobStep.{locked_peers}
use Rattle.step_judging.specs.Rules.{is_nil}
use Rattle.job_makes.specs.Turns.{turn_in}
use Rattle.job_makes.proofs.turn.Turn.ends_freely.Goals as goal

pub returns-else-lost : goal.returns-else-lost
returns-else-lost c = λ s st outcome is.
    let t = turn_in c.args.self.now s st in
    c.owes_none.ensures s st ∙ ap (λ (b : Bool). is_nil (if b then [] else locked_peers t)) (sym c.if-lost.false ∙ is)
