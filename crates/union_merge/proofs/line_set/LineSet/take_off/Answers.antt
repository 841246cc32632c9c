-- What the proof of `line_set::LineSet::take_off` needs beside the tactics.
use Rattle.std.proofs.Common.{sym, subst}
use Rattle.union_merge.specs.LineSet.{IsLineSet}
use Rattle.union_merge.proofs.DifferenceLemmas.{difference-is_set}
use Rattle.union_merge.proofs.line_set.LineSet.take_off.Goals as goal

pub invariant_of-self : goal.invariant_of-self
invariant_of-self c = subst IsLineSet (sym c.keep_others.ensures) (difference-is_set c.self.inside.lines.items c.args.other.now c.self.invariant)
