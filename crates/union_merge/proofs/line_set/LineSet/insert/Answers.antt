-- What the proof of `line_set::LineSet::insert` needs beside the tactics.
use Rattle.std.proofs.Common.{◌≡◌, ◌∙◌, List, ℕ, sym, ap, subst}
use Rattle.std.specs.List.{insert}
use Rattle.annex_base.specs.Lists.{Member}
use Rattle.union_merge.specs.LineSet.{IsLineSet, with_line}
use Rattle.union_merge.proofs.SetLemmas.{with_line-there, with_line-is_set}
use Rattle.union_merge.proofs.line_set.LineSet.insert.Goals as goal

pub returns-in_default-clause-ok : goal.returns-in_default-clause-ok
returns-in_default-clause-ok c =
    sym (c.self.view_is) ∙ sym (with_line-there c.args.line.now c.self.inside.lines.items c.self.invariant.sorted (subst (Member c.args.line.now) c.deref.ensures.value c.in_default.ensures.found))
    ∙ ap (λ (xs : List (List ℕ)). with_line xs c.args.line.now) c.self.view_is

pub invariant_of-self-2 : goal.invariant_of-self-2
invariant_of-self-2 c =
    subst IsLineSet (sym (c.in_ok-insert.ensures.items ∙ ap (λ (w : List ℕ). insert c.self.inside.lines.items c.in-Err.at w) c.in_ok-copy.ensures
    ∙ subst (λ (xs : List (List ℕ)). insert xs c.in-Err.at c.args.line.now ≡ with_line xs c.args.line.now) c.deref.ensures.value c.in-Err.ensures.place))
    (with_line-is_set c.args.line.now c.self.inside.lines.items c.self.invariant c.requires)
