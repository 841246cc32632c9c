-- What the proof of `knowing::Knowing::lacks` needs beside the tactics.
use Rattle.std.proofs.Common.{None, ◌∙◌}
use Rattle.run_data.specs.declared.job.DropRefusal.TheVariants.{Lacking}
use Rattle.run_data.specs.declared.job.Outcome.TheVariants.{Refused}
use Rattle.node_model.specs.JobStep.{ends}
use Rattle.step_judging.specs.Rules.{effect_of}
use Rattle.step_judging.specs.Same.{same_effect}
use Rattle.drop_makes.specs.Knowings.{drop_in}
use Rattle.drop_makes.proofs.knowing.Knowing.lacks.Goals as goal

pub returns : goal.returns
returns c = λ s st.
    let k = c.args.self.now in
    let t = drop_in k.turn.now k.logs.now s st in
    let told = effect_of k.turn.now.told.now in
    c.ends_as.ensures s st ∙ (λ i. same_effect (ends t None (Refused (Lacking (c.in_ok-proof.ensures i) ((c.from_vec-causes.ensures ∙ c.in_ok-causes.ensures) i)))) told)
