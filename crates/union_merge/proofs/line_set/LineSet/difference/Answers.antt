-- What the proof of `line_set::LineSet::difference` needs beside the tactics.
use Rattle.std.proofs.Common.{◌∙◌, List, ℕ, sym, ap, subst}
use Rattle.union_merge.specs.LineSet.{IsLineSet, difference}
use Rattle.union_merge.proofs.DifferenceLemmas.{difference-is_set}
use Rattle.union_merge.proofs.line_set.LineSet.difference.Goals as goal

pub invariant_of-result : goal.invariant_of-result
invariant_of-result c =
    subst IsLineSet (sym (c.in_ok-lines.ensures ∙ ap (λ (w : List (List ℕ)). difference w c.args.other.now) c.deref.ensures.value))
    (difference-is_set c.self.inside.lines.items c.args.other.now c.self.invariant)
