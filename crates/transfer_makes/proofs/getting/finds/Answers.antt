-- What the proof of `getting::finds` needs beside the tactics.
use Rattle.std.proofs.Common.{Bool, None, if◌then◌else◌, sym, ap, ◌∙◌}
use Rattle.node_model.specs.JobStep.{ends, quietly, talk}
use Rattle.run_data.specs.declared.job.Outcome.TheVariants.{Got}
use Rattle.step_judging.specs.Same.{same_effect}
use Rattle.step_judging.specs.Rules.{effect_of}
use Rattle.job_makes.specs.Turns.{turn_in}
use Rattle.transfer_makes.proofs.getting.finds.Goals as goal

pub returns-then-is_move : goal.returns-then-is_move
returns-then-is_move c = λ s st.
    let t = turn_in c.args.turn.now s st in
    c.quietly.ensures (talk t) (c.talks.ensures s st)
    ∙ ap (λ (b : Bool). same_effect (if b then quietly (talk t) None else ends t None (Got None None)) (effect_of c.args.turn.now.told.now)) (sym c.if-is_move.true ∙ c.is_move.ensures)

pub returns-else-is_move : goal.returns-else-is_move
returns-else-is_move c = λ s st.
    let t = turn_in c.args.turn.now s st in
    c.ends_as.ensures s st
    ∙ ap (λ (b : Bool). same_effect (if b then quietly (talk t) None else ends t None (Got None None)) (effect_of c.args.turn.now.told.now)) (sym c.if-is_move.false ∙ c.is_move.ensures)
