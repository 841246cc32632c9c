-- What the proof of `patterns::keep_said` needs beside the tactics.
use Rattle.std.proofs.Common.{◌≡◌, List, ℕ, Option, OnOk, sym, ap, subst, ◌∙◌}
use Rattle.log_lines.specs.Reading.{entry_of}
use Rattle.trust_groups.specs.Globs.{HasGlob, pattern_said}
use Rattle.trust_groups.proofs.patterns.keep_said.Goals as goal

pub returns-in-Some-clause-has : goal.returns-in-Some-clause-has
returns-in-Some-clause-has c =
    let said : c.pattern_said.result ≡ pattern_said (entry_of c.args.kind c.args.line.now) = c.pattern_said.ensures ∙ ap pattern_said (c.in_ok-entry.ensures.exact ∙ ap (entry_of c.args.kind) c.bytes.ensures) in
    subst (λ (o : Option (List ℕ)). OnOk c.keep_pattern.result (HasGlob c.keep_pattern.new.globs.entries o)) (sym c.in-Some.is ∙ said) c.keep_pattern.ensures.has

pub returns-in-None-clause-has : goal.returns-in-None-clause-has
returns-in-None-clause-has c =
    let said : c.pattern_said.result ≡ pattern_said (entry_of c.args.kind c.args.line.now) = c.pattern_said.ensures ∙ ap pattern_said (c.in_ok-entry.ensures.exact ∙ ap (entry_of c.args.kind) c.bytes.ensures) in
    subst (HasGlob c.args.globs.now.entries) (sym c.in-None.is ∙ said) tt
