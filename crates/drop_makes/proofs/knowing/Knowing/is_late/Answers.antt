-- What the proof of `knowing::Knowing::is_late` needs beside the tactics.
use Rattle.std.proofs.Common.{None, refl, sym, ap, ◌∙◌}
use Rattle.run_data.specs.declared.job.DropRefusal.TheVariants.{Expired}
use Rattle.run_data.specs.declared.job.Outcome.{Outcome}
use Rattle.run_data.specs.declared.job.Outcome.TheVariants.{Refused}
use Rattle.node_model.specs.DropStep.{expiry}
use Rattle.node_model.specs.JobStep.{ends}
use Rattle.drop_makes.proofs.EndLemmas.{expiry_is}
use Rattle.step_judging.specs.Rules.{effect_of}
use Rattle.step_judging.specs.Same.{same_effect}
use Rattle.drop_makes.specs.Knowings.{drop_in}
use Rattle.drop_makes.proofs.knowing.Knowing.is_late.Goals as goal

pub returns : goal.returns
returns c = λ s st.
    let k = c.args.self.now in
    let t = drop_in k.turn.now k.logs.now s st in
    let told = effect_of k.turn.now.told.now in
    let outcome : Outcome = Refused (Expired c.unwrap_or-end.result c.args.clock) in
    c.ends.ensures s st outcome (c.is_expired.ensures ∙ sym (c.ended.ensures s st outcome)) refl
    ∙ ap (λ (o : Outcome). same_effect (ends t None o) told)
    (expiry_is c.args.clock c.unwrap_or-end.result c.first_end.result c.unwrap_or-end.ensures ∙ ap (expiry c.args.clock) (c.first_end.ensures s st))
