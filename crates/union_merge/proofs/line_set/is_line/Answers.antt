-- What the proof of `line_set::is_line` needs beside the tactics.
use Rattle.union_merge.proofs.LineLemmas.{line_test}
use Rattle.union_merge.proofs.line_set.is_line.Goals as goal

pub returns-then-not-is_empty : goal.returns-then-not-is_empty
returns-then-not-is_empty c = line_test c.args.bytes.now c.contains.result c.if-not-is_empty.ensures c.contains.ensures.value
