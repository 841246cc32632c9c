-- What the proof of `putting::hears_error` needs beside the tactics.
use Rattle.std.proofs.Common.{Bool, if◌then◌else◌, sym, ap, ◌∙◌}
use Rattle.node_model.specs.JobStep.{hears, wrong_message}
use Rattle.step_judging.specs.Same.{same_effect}
use Rattle.step_judging.specs.Rules.{effect_of}
use Rattle.job_makes.specs.Turns.{turn_in}
use Rattle.transfer_makes.proofs.putting.hears_error.Goals as goal

pub returns-then-is_busy : goal.returns-then-is_busy
returns-then-is_busy c = λ s st.
    let t = turn_in c.args.turn.now s st in
    c.hears.ensures s st ∙ ap (λ (b : Bool). same_effect (if b then hears t c.args.frame.now else wrong_message t c.args.frame.now c.args.peer) (effect_of c.args.turn.now.told.now)) (sym c.if-is_busy.true ∙ c.is_busy.ensures)

pub returns-else-is_busy : goal.returns-else-is_busy
returns-else-is_busy c = λ s st.
    let t = turn_in c.args.turn.now s st in
    c.wrong_message.ensures s st ∙ ap (λ (b : Bool). same_effect (if b then hears t c.args.frame.now else wrong_message t c.args.frame.now c.args.peer) (effect_of c.args.turn.now.told.now)) (sym c.if-is_busy.false ∙ c.is_busy.ensures)
