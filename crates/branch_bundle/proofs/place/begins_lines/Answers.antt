-- What the proof of `place::begins_lines` needs beside the tactics.
use Rattle.branch_bundle.proofs.TestLemmas.{lines_test}
use Rattle.branch_bundle.proofs.place.begins_lines.Goals as goal

pub returns-then-length-count : goal.returns-then-length-count
returns-then-length-count c = lines_test c.args.count c.args.text.now c.lines_end_well.result c.if-length-count.true c.lines_end_well.ensures
