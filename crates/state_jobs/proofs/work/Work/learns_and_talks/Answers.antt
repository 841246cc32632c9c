-- What the proof of `work::Work::learns_and_talks` needs beside the tactics.
use Rattle.std.proofs.Common.{sym, subst, ◌∙◌}
use Rattle.state_jobs.specs.Phases.{IsBelow}
use Rattle.state_jobs.specs.declared.phase.Phase.{Phase}
use Rattle.state_jobs.proofs.work.Work.learns_and_talks.Goals as goal

pub returns-clause-small : goal.returns-clause-small
returns-clause-small c = λ limit le below.
    c.talks_on.ensures.small limit le (subst (λ (phase : Phase). IsBelow limit phase) (sym (c.learns_of.ensures.phase ∙ c.claims.ensures.phase)) below)
