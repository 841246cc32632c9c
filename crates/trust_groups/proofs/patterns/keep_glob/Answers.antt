-- What the proof of `patterns::keep_glob` needs beside the tactics.
use Rattle.std.proofs.Common.{sym, ap, subst, ◌∙◌}
use Rattle.std.proofs.lemmas.Bool.{false≢true}
use Rattle.std.proofs.lemmas.Result.{IfOk-weaker}
use Rattle.log_lines.specs.declared.entry.LogKind.{LogKind}
use Rattle.log_lines.specs.Reading.{entry_of}
use Rattle.trust_groups.specs.Globs.{HasGlob, is_by_path, pattern_said}
use Rattle.trust_groups.proofs.patterns.keep_glob.Goals as goal

pub returns-then-is_by_path-clause-has : goal.returns-then-is_by_path-clause-has
returns-then-is_by_path-clause-has c = IfOk-weaker c.keep_said.result _ _ (λ v said by. subst (λ (kind : LogKind). HasGlob c.keep_said.new.globs.entries (pattern_said (entry_of kind c.args.line.now))) c.kind_at-kind.ensures said) c.keep_said.ensures.has

pub returns-else-is_by_path-clause-has : goal.returns-else-is_by_path-clause-has
returns-else-is_by_path-clause-has c = λ by. absurd (false≢true (sym c.if-is_by_path.false ∙ (c.is_by_path.ensures ∙ ap is_by_path c.kind_at-kind.ensures ∙ by)))
