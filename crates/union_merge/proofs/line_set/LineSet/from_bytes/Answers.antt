-- What the proof of `line_set::LineSet::from_bytes` needs beside the tactics.
use Rattle.std.proofs.Common.{sym, subst}
use Rattle.annex_base.specs.Lists.{Each}
use Rattle.union_merge.specs.LineSet.{IsLine}
use Rattle.union_merge.proofs.LineLemmas.{lines_in-lines}
use Rattle.union_merge.proofs.line_set.LineSet.from_bytes.Goals as goal

pub from_lines-requires : goal.from_lines-requires
from_lines-requires c = subst (Each IsLine) (sym c.in_ok-lines.ensures) (lines_in-lines c.args.bytes.now)
