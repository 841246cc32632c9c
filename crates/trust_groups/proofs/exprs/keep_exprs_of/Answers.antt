-- What the proof of `exprs::keep_exprs_of` needs beside the tactics.
use Rattle.std.proofs.Common.{sym, ap, subst, ◌∙◌}
use Rattle.std.proofs.lemmas.Bool.{false≢true}
use Rattle.std.proofs.lemmas.Result.{IfOk-weaker}
use Rattle.log_lines.specs.declared.entry.LogKind.{LogKind}
use Rattle.log_lines.specs.Reading.{entry_of}
use Rattle.trust_groups.specs.Exprs.{HaveExprs, has_exprs, texts_said}
use Rattle.trust_groups.proofs.exprs.keep_exprs_of.Goals as goal

pub returns-then-has_exprs-clause-have : goal.returns-then-has_exprs-clause-have
returns-then-has_exprs-clause-have c = IfOk-weaker c.keep_said.result _ _ (λ v said has. subst (λ (kind : LogKind). HaveExprs c.keep_said.new.exprs (texts_said (entry_of kind c.args.line.now))) c.kind_at-kind.ensures said) c.keep_said.ensures.have

pub returns-else-has_exprs-clause-have : goal.returns-else-has_exprs-clause-have
returns-else-has_exprs-clause-have c = λ has. absurd (false≢true (sym c.if-has_exprs.false ∙ (c.has_exprs.ensures ∙ ap has_exprs c.kind_at-kind.ensures ∙ has)))
