-- What the proof of `knowing::Knowing::bars` needs beside the tactics.
use Rattle.std.proofs.Common.{Option, sym, ap, ◌∙◌}
use Rattle.run_data.specs.declared.entry.EntryKind.TheVariants.{Bar}
use Rattle.run_data.specs.declared.job.DropRefusal.{DropRefusal}
use Rattle.node_model.specs.DropStep.{bars, need_now}
use Rattle.node_model.specs.JobStep.{key_of}
use Rattle.step_judging.specs.Rules.{effect_of}
use Rattle.step_judging.specs.Same.{same_effect, same_kind}
use Rattle.drop_makes.specs.Knowings.{drop_in}
use Rattle.drop_makes.proofs.knowing.Knowing.bars.Goals as goal

pub returns-in-Some : goal.returns-in-Some
returns-in-Some c = λ s st.
    let k = c.args.self.now in
    let t = drop_in k.turn.now k.logs.now s st in
    c.ends_as.ensures s st ∙ ap (λ (r : Option DropRefusal). same_effect (bars t r) (effect_of k.turn.now.told.now)) (sym c.in-Some.is)

pub returns-in-None : goal.returns-in-None
returns-in-None c = λ s st.
    let k = c.args.self.now in
    let t = drop_in k.turn.now k.logs.now s st in
    c.quietly.ensures (Bar t.w.number (need_now t) (key_of t)) (c.is_bar-is.ensures ∙ (λ i. same_kind (Bar t.w.number (c.need.ensures i) (c.key.ensures s st i)) k.turn.now.told.now.kind))
    ∙ ap (λ (r : Option DropRefusal). same_effect (bars t r) (effect_of k.turn.now.told.now)) (sym c.in-None.is)
