-- What the proof of `working::Working::new` needs beside the tactics.
use Rattle.std.proofs.Common.{List, subst}
use Rattle.annex_base.specs.Lists.{Each}
use Rattle.node_model.specs.Jobs as jobs
use Rattle.state_owed.specs.Changes.{TalksWithin}
use Rattle.step_state.proofs.StateLemmas.{some_set_up}
use Rattle.step_state.proofs.working.Working.new.Goals as goal

pub returns-clause-working : goal.returns-clause-working
returns-clause-working c = λ s. record { works = c.new.ensures.works s; reads = c.new-2.ensures s; owed = c.new-3.ensures.owed s }

pub returns-clause-within : goal.returns-clause-within
returns-clause-within c = λ count. record {
  jobs = subst (λ (ws : List jobs.Work). Each (TalksWithin count) ws) (c.new.ensures.works (some_set_up 0)).works tt;
  owed = c.new-3.ensures.within count;
}
