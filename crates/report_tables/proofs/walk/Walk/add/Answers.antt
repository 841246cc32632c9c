-- What the proof of `walk::Walk::add` needs beside the tactics.
use Rattle.std.proofs.Common.{length}
use Rattle.report_tables.proofs.walk.Walk.add.Goals as goal

pub returns : goal.returns
returns c = λ repos past known. record {
  contents = c.in_ok-add.ensures.ok (length repos) past known.contents;
  branches = c.in_ok-add-2.ensures.ok (length repos) past known.branches;
  sets = c.add-3.ensures (length repos) past known.sets;
  rows = c.in_ok-add-3.ensures repos past known.rows;
}
