-- What the proof of `exprs::expr_in` needs beside the tactics.
use Rattle.std.proofs.Common.{sym, ◌∙◌}
use Rattle.annex_base.proofs.Rows.{lookup-shown}
use Rattle.trust_groups.specs.Exprs.{exprs_shown}
use Rattle.trust_groups.proofs.ExprLemmas.{some_reads}
use Rattle.trust_groups.proofs.exprs.expr_in.Goals as goal

pub returns : goal.returns
returns c =
    c.get.ensures.value
    ∙ lookup-shown c.args.by_text.now.entries c.args.text.now
    ∙ some_reads (exprs_shown c.args.by_text.now.entries) c.args.text.now (sym c.is_empty.ensures ∙ c.if-is_empty.false) c.requires
