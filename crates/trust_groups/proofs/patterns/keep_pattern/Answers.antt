-- What the proof of `patterns::keep_pattern` needs beside the tactics.
use Rattle.std.proofs.Common.{ap, ◌∙◌}
use Rattle.glob_match.specs.Spelled.{glob_in}
use Rattle.trust_groups.proofs.GlobLemmas.{keep_same, put_has, put_keeps}
use Rattle.trust_groups.proofs.patterns.keep_pattern.Goals as goal

pub returns-in_err-insert-clause-keeps : goal.returns-in_err-insert-clause-keeps
returns-in_err-insert-clause-keeps c = keep_same c.args.globs.now.entries c.insert.new.self.entries c.in_err-insert.ensures.err

pub returns-clause-keeps : goal.returns-clause-keeps
returns-clause-keeps c =
    put_keeps c.args.globs.now.entries c.insert.new.self.entries c.args.pattern c.in_ok-glob.glob c.in_ok-insert.ensures.updates.0 (c.in_ok-glob.ensures ∙ ap glob_in c.bytes.ensures)

pub returns-clause-has : goal.returns-clause-has
returns-clause-has c =
    put_has c.args.globs.now.entries c.insert.new.self.entries c.args.pattern c.in_ok-glob.glob c.in_ok-insert.ensures.updates.0 (c.in_ok-glob.ensures ∙ ap glob_in c.bytes.ensures)
