-- What the proof of `branches::compacted` needs beside the tactics.
use Rattle.std.proofs.Common.{◌∙◌, [], sym, ap, subst}
use Rattle.annex_base.specs.Lists.{Each}
use Rattle.log_lines.specs.Newest.{current_lines}
use Rattle.union_merge.specs.LineSet.{IsLine, union}
use Rattle.node_model.specs.Files.{compact_lines}
use Rattle.report_tables.proofs.BranchLemmas.{current_set}
use Rattle.report_tables.proofs.branches.compacted.Goals as goal

pub from_lines-requires : goal.from_lines-requires
from_lines-requires c =
    let kind = c.in-Some.kind in
    let are = c.in_ok-compact.ensures ∙ ap (current_lines kind) (c.in_ok-lines.ensures ∙ c.lines.ensures.value) in
    subst (Each IsLine) (sym are) (current_set kind c.args.lines.now c.lines.ensures.set).each

pub returns : goal.returns
returns c =
    let kind = c.in-Some.kind in
    let are = c.in_ok-compact.ensures ∙ ap (current_lines kind) (c.in_ok-lines.ensures ∙ c.lines.ensures.value) in
    c.from_lines.ensures
    ∙ ap (union []) are
    ∙ c.unions_have_the_lines_of_both.ensures.alone (current_lines kind c.args.lines.now) (current_set kind c.args.lines.now c.lines.ensures.set)
    ∙ ap (λ of. compact_lines of c.args.lines.now) (sym c.in-Some.is)
