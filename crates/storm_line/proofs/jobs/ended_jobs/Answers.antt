-- What the proof of `jobs::ended_jobs` needs beside the tactics.
use Rattle.std.proofs.Common.{length, reverse, arith}
use Rattle.storm_line.specs.Counts.{done_jobs, refused_jobs}
use Rattle.storm_line.proofs.Totals.{bound_more, total_more}
use Rattle.storm_line.proofs.jobs.ended_jobs.Goals as goal

pub loop-repo-preserved : goal.loop-repo-preserved
loop-repo-preserved c =
    let r = c.loop-repo.repo in
    let entries = c.as_slice-entries.result.now in
    let few = bound_more r (length entries) _ _ c.loop-repo.invariant.2 c.in_ok-ended.ensures.few in (
      total_more (done_jobs (reverse entries)) r _ _ c.loop-repo.invariant.0 c.in_ok-ended.ensures.done,
      total_more (refused_jobs (reverse entries)) r _ _ c.loop-repo.invariant.1 c.in_ok-ended.ensures.refused,
      omega (arith, few),
    )
