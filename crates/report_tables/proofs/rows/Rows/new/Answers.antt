-- What the proof of `rows::Rows::new` needs beside the tactics.
use Rattle.std.proofs.Common.{◌<◌, arith, length}
use Rattle.report_tables.proofs.RowTables.{rows_more}
use Rattle.report_tables.proofs.rows.Rows.new.Goals as goal

pub loop-repo-preserved : goal.loop-repo-preserved
loop-repo-preserved c =
    let pushed = c.in_ok-push.ensures in
    let within : c.loop-repo.repo-index < length c.args.repos.now = omega arith in (
      omega arith,
      λ r none below. rw pushed.items (rows_more c.loop-repo.rows.items c.loop-repo.repo-index _ c.args.repos.now c.repo-item.result
          c.loop-repo.invariant.0 within c.repo-item.is c.new.ensures c.new-in-loop-repo.ensures.empty c.new-in-loop-repo-2.ensures.items
          c.loop-repo.invariant.1 r none below),
    )
