-- What the proof of `walk::Walk::read_settings` needs beside the tactics.
use Rattle.std.proofs.Common.{length}
use Rattle.std.proofs.lemmas.Result.{on_ok_weaker}
use Rattle.run_model.specs.Safety.{past_at}
use Rattle.report_tables.proofs.walk.Walk.read_settings.Goals as goal

pub returns-clause-stands : goal.returns-clause-stands
returns-clause-stands c = on_ok_weaker c.read.result (λ has run place stands. record {
  place_is = stands.place_is;
  knows = record {
    contents = stands.knows.contents;
    branches = stands.knows.branches;
    sets = has (length run.repos) (past_at run place) stands.knows.sets (c.branch-branch.ensures (length run.repos) (past_at run place) stands.knows.branches);
    rows = stands.knows.rows;
  };
}) c.read.ensures.has
