-- What the proof of `expr::Expr::of_text` needs beside the tactics.
use Rattle.std.proofs.Common.{sym, arith, ◌∙◌}
use Rattle.std.proofs.lemmas.Result.{IfOk-weaker}
use Rattle.wanted_expr.specs.Formula.{formula_of}
use Rattle.wanted_expr.proofs.ParseLemmas.{ends_expression}
use Rattle.wanted_expr.proofs.WantedLemmas.{reads_as, reads_as_present, refused_reads}
use Rattle.wanted_expr.proofs.expr.Expr.of_text.Goals as goal

pub returns-then-text-gt-TEXT_LIMIT : goal.returns-then-text-gt-TEXT_LIMIT
returns-then-text-gt-TEXT_LIMIT c = c.present.ensures ∙ sym (reads_as_present c.globs_are_read.ensures c.args.text.now (λ f is. absurd (omega (arith, is.short, c.if-text-gt-TEXT_LIMIT.true))))

pub returns-in-Ok : goal.returns-in-Ok
returns-in-Ok c = sym (reads_as c.globs_are_read.ensures c.args.text.now (formula_of c.in-Ok.tree) (ends_expression c.args.text.now (formula_of c.in-Ok.tree) c.if-text-gt-TEXT_LIMIT.false c.in-Ok.ensures))

pub returns-in-Err : goal.returns-in-Err
returns-in-Err c = IfOk-weaker c.instead_of.result _ _ (λ e both.
    both.1 ∙ sym (refused_reads c.globs_are_unique.ensures c.globs_are_read.ensures c.args.text.now c.in-Err.fault c.in-Err.ensures both.0)) c.instead_of.ensures
