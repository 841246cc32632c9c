-- What the proof of `patterns::keep_globs` needs beside the tactics.
use Rattle.std.proofs.Common.{sym, ap, subst, ◌∙◌}
use Rattle.std.proofs.lemmas.Bool.{false≢true}
use Rattle.std.proofs.lemmas.Result.{IfOk-weaker}
use Rattle.log_lines.specs.declared.entry.LogKind.{LogKind}
use Rattle.trust_groups.specs.Globs.{HaveGlobs, is_by_path}
use Rattle.trust_groups.proofs.patterns.keep_globs.Goals as goal

pub returns-then-is_by_path-clause-have : goal.returns-then-is_by_path-clause-have
returns-then-is_by_path-clause-have c = IfOk-weaker c.keep_all.result _ _ (λ v said by. subst (λ (kind : LogKind). HaveGlobs c.keep_all.new.globs.entries kind c.args.lines.now) c.kind_at-kind.ensures said) c.keep_all.ensures.have

pub returns-else-is_by_path-clause-have : goal.returns-else-is_by_path-clause-have
returns-else-is_by_path-clause-have c = λ by. absurd (false≢true (sym c.if-is_by_path.false ∙ (c.is_by_path.ensures ∙ ap is_by_path c.kind_at-kind.ensures ∙ by)))
