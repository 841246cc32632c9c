-- What the proof of `line_set::is_among` needs beside the tactics.
use Rattle.union_merge.proofs.DifferenceLemmas.{any_is}
use Rattle.union_merge.proofs.line_set.is_among.Goals as goal

pub returns : goal.returns
returns c = any_is c.args.line.now c.args.lines.now c.contains.result c.contains.ensures
