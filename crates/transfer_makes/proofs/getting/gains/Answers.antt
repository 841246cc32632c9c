-- What the proof of `getting::gains` needs beside the tactics.
use Rattle.std.proofs.Common.{Bool, sym, ap, ◌∙◌}
use Rattle.node_model.specs.JobStep.{by_me, key_of, talk}
use Rattle.node_model.specs.TransferStep.{gains}
use Rattle.run_data.specs.declared.entry.By.{By}
use Rattle.run_data.specs.declared.entry.EntryKind.TheVariants.{Gain}
use Rattle.step_judging.specs.Same.{same_effect, same_kind}
use Rattle.step_judging.specs.Same.{same_effect}
use Rattle.step_judging.specs.Rules.{effect_of}
use Rattle.job_makes.specs.Turns.{turn_in}
use Rattle.transfer_makes.proofs.getting.gains.Goals as goal

pub returns-then-right : goal.returns-then-right
returns-then-right c = λ s st.
    let t = turn_in c.args.turn.now s st in
    let told = c.args.turn.now.told.now in
    c.says_to.ensures s st (Gain (by_me t) c.args.size (key_of t)) (c.is_gain-kind_is.ensures ∙ ap (λ (by : By). same_kind (Gain by c.args.size (key_of t)) told.kind) (c.by_me.ensures s st))
    ∙ ap (λ (b : Bool). same_effect (gains t c.args.frame.now c.args.peer c.args.size b) (effect_of told)) (sym c.if-right.true)

pub returns-else-right : goal.returns-else-right
returns-else-right c = λ s st.
    let t = turn_in c.args.turn.now s st in
    c.says_to-else-right.ensures s st (talk t) (c.talks.ensures s st)
    ∙ ap (λ (b : Bool). same_effect (gains t c.args.frame.now c.args.peer c.args.size b) (effect_of c.args.turn.now.told.now)) (sym c.if-right.false)
