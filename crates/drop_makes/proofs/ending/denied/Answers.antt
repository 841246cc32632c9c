-- What the proof of `ending::denied` needs beside the tactics.
use Rattle.std.proofs.Common.{None, ap, ◌∙◌}
use Rattle.run_data.specs.declared.job.Denial.{Denial}
use Rattle.run_data.specs.declared.job.DropRefusal.TheVariants.{Denied}
use Rattle.run_data.specs.declared.job.Outcome.TheVariants.{Refused}
use Rattle.node_model.specs.JobStep.{ends}
use Rattle.node_model.specs.Knows.{denial_of}
use Rattle.step_judging.specs.Rules.{effect_of}
use Rattle.step_judging.specs.Same.{same_effect}
use Rattle.job_makes.specs.Turns.{turn_in, word_in}
use Rattle.drop_makes.proofs.ending.denied.Goals as goal

pub returns : goal.returns
returns c = λ s st.
    let x = c.args.turn.now in
    c.ends_as.ensures s st
    ∙ ap (λ (d : Denial). same_effect (ends (turn_in x s st) None (Refused (Denied d))) (effect_of x.told.now))
    (c.denial_of-answer.ensures ∙ ap denial_of (c.word.ensures ∙ ap (word_in x.words.now) c.target.ensures))
