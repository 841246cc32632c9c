-- What the proof of `parts::Parts::dissolve` needs beside the tactics.
use Rattle.std.proofs.Common.{◌∙◌}
use Rattle.run_data.specs.declared.entry.By.TheVariants.{Job as by_job}
use Rattle.running_jobs.specs.Running.{fills_at}
use Rattle.node_crash.proofs.Jobs.{jobs_keep, no_jobs}
use Rattle.node_parts.proofs.parts.Parts.dissolve.Goals as goal

pub end_all-requires : goal.end_all-requires
end_all-requires c = record {
  owns =
      jobs_keep c.self.inside.jobs c.self.inside.table c.end.new.table c.end.ensures.bars (λ job share own. c.end.ensures.others (by_job job) share (no_jobs c.self.inside.sessions job) own)
      (λ key is. c.end.ensures.filled (fills_at c.self.inside.jobs.running) c.self.invariant.filled key ∙ is) c.self.invariant.acting;
}
