-- What the proof of `knowing::Knowing::first_local` needs beside the tactics.
use Rattle.std.proofs.Common.{Option, [], ◌∷◌, ap, ◌∙◌}
use Rattle.annex_base.specs.declared.kinds.Call.TheVariants.{Has}
use Rattle.run_data.specs.declared.job.DropRefusal.{DropRefusal}
use Rattle.node_model.specs.DropStep.{bars, held_until, required_there, row_refusal}
use Rattle.node_model.specs.JobStep.{bar_there, is_there}
use Rattle.step_judging.specs.Rules.{effect_of}
use Rattle.step_judging.specs.Same.{same_effect}
use Rattle.drop_makes.specs.Knowings.{drop_in}
use Rattle.drop_makes.proofs.knowing.Knowing.first_local.Goals as goal

pub returns : goal.returns
returns c = λ s st.
    let k = c.args.self.now in
    let t = drop_in k.turn.now k.logs.now s st in
    c.attempts.ensures s st (Has ∷ []) (bars t (row_refusal (is_there t) (required_there t) (bar_there t) (held_until t))) (c.fails.ensures s st)
    (c.bars-made.ensures s st ∙ ap (λ (r : Option DropRefusal). same_effect (bars t r) (effect_of k.turn.now.told.now))
    (c.in_ok-refusal.ensures ∙ (λ i. row_refusal (c.is_there.ensures s st i) (c.required.ensures i) (c.bar_there.ensures s st i) (c.held_until.ensures s st i))))
