-- What the proof of `knowing::Knowing::is_removed` needs beside the tactics.
use Rattle.std.proofs.Common.{None, ap, ◌∙◌}
use Rattle.run_data.specs.declared.job.Outcome.{Outcome}
use Rattle.node_model.specs.JobStep.{ends}
use Rattle.step_judging.specs.Rules.{effect_of}
use Rattle.step_judging.specs.Same.{same_effect}
use Rattle.drop_makes.specs.Knowings.{drop_in}
use Rattle.drop_makes.proofs.knowing.Knowing.is_removed.Goals as goal

pub returns : goal.returns
returns c = λ s st.
    let k = c.args.self.now in
    let t = drop_in k.turn.now k.logs.now s st in
    let told = effect_of k.turn.now.told.now in
    c.ends_as.ensures s st ∙ ap (λ (o : Outcome). same_effect (ends t None o) told) (c.in_ok-outcome.ensures s st)
