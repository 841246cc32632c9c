-- What the proof of `line_set::LineSet::from_lines` needs beside the tactics.
use Rattle.std.proofs.Common.{sym, subst, []}
use Rattle.union_merge.specs.LineSet.{IsLineSet}
use Rattle.union_merge.proofs.SetLemmas.{empty-is_set, union-is_set}
use Rattle.union_merge.proofs.line_set.LineSet.from_lines.Goals as goal

pub invariant_of-result : goal.invariant_of-result
invariant_of-result c = subst IsLineSet (sym c.put_in_order.ensures) (union-is_set [] c.args.lines.items empty-is_set c.requires)
