-- What the proof of `getting::gives_up` needs beside the tactics.
use Rattle.std.proofs.Common.{List, refl, sym, ap, ◌∙◌}
use Rattle.run_data.specs.declared.job.Outcome.TheVariants.{TransferRefused}
use Rattle.run_data.specs.declared.job.SourceFailure.{SourceFailure}
use Rattle.run_data.specs.declared.job.TransferRefusal.TheVariants.{NoSource}
use Rattle.step_effects.specs.Outcomes.{outcome_told}
use Rattle.std.specs.Option.{option_copied}
use Rattle.transfer_makes.proofs.getting.gives_up.Goals as goal

pub returns : goal.returns
returns c = λ s st.
    let outcome = TransferRefused (NoSource c.args.turn.now.work.now.causes.items) in
    c.ends.ensures s st outcome
    (c.is_without_source-outcome_is.ensures
    ∙ ap (λ (causes : List SourceFailure). outcome_told (TransferRefused (NoSource causes)) (option_copied c.ended.result)) c.deref.ensures.value
    ∙ sym (c.ended.ensures s st outcome))
    refl
