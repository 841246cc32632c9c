-- What the proof of `walk::Walk::branch` needs beside the tactics.
use Rattle.std.proofs.Common.{length}
use Rattle.run_model.specs.Safety.{past_at}
use Rattle.report_tables.proofs.walk.Walk.branch.Goals as goal

pub returns : goal.returns
returns c = λ run place stands. c.branch-self.ensures (length run.repos) (past_at run place) stands.knows.branches
