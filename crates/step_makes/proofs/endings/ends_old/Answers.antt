-- What the proof of `endings::ends_old` needs beside the tactics.
use Rattle.std.proofs.Common.{sym, refl, ◌∙◌}
use Rattle.run_data.specs.declared.job.DropRefusal.TheVariants.{OldProtocol}
use Rattle.run_data.specs.declared.job.Outcome.TheVariants.{Refused}
use Rattle.step_makes.proofs.endings.ends_old.Goals as goal

pub returns : goal.returns
returns c = λ s st.
    let outcome = Refused (OldProtocol c.args.version) in
    c.ends.ensures s st outcome (c.is_old_protocol-outcome_is.ensures ∙ sym (c.ended.ensures s st outcome)) refl
