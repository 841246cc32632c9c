-- What the proof of `lines::current_lines` needs beside the tactics.
use Rattle.std.proofs.Common.{List, [], ℕ, sym, ap, subst, ◌∙◌}
use Rattle.annex_base.specs.Lists.{Each}
use Rattle.log_lines.specs.Newest.{current_lines}
use Rattle.union_merge.specs.LineSet.{IsLine, union}
use Rattle.branch_lines.proofs.SetLemmas.{current_set}
use Rattle.branch_lines.proofs.lines.current_lines.Goals as goal

pub from_lines-requires : goal.from_lines-requires
from_lines-requires c =
    subst (λ (xs : List (List ℕ)). Each IsLine xs) (sym (c.in_ok-kept.ensures ∙ ap (current_lines c.args.kind) c.in_ok-all.ensures)) (current_set c.args.kind c.args.lines.now c.requires).each

pub returns : goal.returns
returns c =
    c.from_lines.ensures ∙ ap (λ (xs : List (List ℕ)). union [] xs) (c.in_ok-kept.ensures ∙ ap (current_lines c.args.kind) c.in_ok-all.ensures)
    ∙ c.unions_have_the_lines_of_both.ensures.alone _ (current_set c.args.kind c.args.lines.now c.requires)
