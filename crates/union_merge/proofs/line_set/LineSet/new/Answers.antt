-- What the proof of `line_set::LineSet::new` needs beside the tactics.
use Rattle.std.proofs.Common.{sym, subst}
use Rattle.union_merge.specs.LineSet.{IsLineSet}
use Rattle.union_merge.proofs.SetLemmas.{empty-is_set}
use Rattle.union_merge.proofs.line_set.LineSet.new.Goals as goal

pub invariant_of-result : goal.invariant_of-result
invariant_of-result c = subst IsLineSet (sym c.new.ensures.items) empty-is_set
