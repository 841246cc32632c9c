-- What the proof of `exprs::keep_exprs` needs beside the tactics.
use Rattle.std.proofs.Common.{sym, ap, subst, ◌∙◌}
use Rattle.std.proofs.lemmas.Bool.{false≢true}
use Rattle.std.proofs.lemmas.Result.{IfOk-weaker}
use Rattle.log_lines.specs.declared.entry.LogKind.{LogKind}
use Rattle.trust_groups.specs.Exprs.{HaveExprsSaid, has_exprs}
use Rattle.trust_groups.proofs.exprs.keep_exprs.Goals as goal

pub returns-then-has_exprs-clause-have : goal.returns-then-has_exprs-clause-have
returns-then-has_exprs-clause-have c = IfOk-weaker c.keep_all.result _ _ (λ v said has. subst (λ (kind : LogKind). HaveExprsSaid c.keep_all.new.exprs kind c.args.lines.now) c.kind_at-kind.ensures said) c.keep_all.ensures.have

pub returns-else-has_exprs-clause-have : goal.returns-else-has_exprs-clause-have
returns-else-has_exprs-clause-have c = λ has. absurd (false≢true (sym c.if-has_exprs.false ∙ (c.has_exprs.ensures ∙ ap has_exprs c.kind_at-kind.ensures ∙ has)))
