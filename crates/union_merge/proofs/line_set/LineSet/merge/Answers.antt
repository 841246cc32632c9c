-- What the proof of `line_set::LineSet::merge` needs beside the tactics.
use Rattle.std.proofs.Common.{◌≡◌, ◌∙◌, List, ℕ, sym, ap, subst}
use Rattle.union_merge.specs.LineSet.{IsLineSet, union, difference}
use Rattle.union_merge.proofs.SetLemmas.{union-is_set}
use Rattle.union_merge.proofs.DifferenceLemmas.{union-difference}
use Rattle.union_merge.proofs.line_set.LineSet.merge.Goals as goal
use Rattle.union_merge.proofs.line_set.LineSet.merge.Goals.{After-add_lines}

-- the lines after the call are the old ones and the new ones
added : (c : After-add_lines) → c.add_lines.new.lines.items ≡ union c.self.inside.lines.items c.new.inside.lines.items
added c = c.add_lines.ensures ∙ ap (λ (w : List (List ℕ)). union w c.new.inside.lines.items) c.reserve.ensures.items

pub invariant_of-self-2 : goal.invariant_of-self-2
invariant_of-self-2 c = subst IsLineSet (sym (added c)) (union-is_set c.self.inside.lines.items c.new.inside.lines.items c.self.invariant c.new.invariant.each)

pub returns-clause-ok : goal.returns-clause-ok
returns-clause-ok c =
    added c ∙ ap (union c.self.inside.lines.items) (c.new.view_is ∙ c.in_ok-new.ensures ∙ ap (difference c.args.other.now) (sym c.self.view_is))
    ∙ union-difference c.self.inside.lines.items c.args.other.now c.self.invariant.sorted ∙ ap (λ (w : List (List ℕ)). union w c.args.other.now) c.self.view_is
