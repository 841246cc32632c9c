-- What holds at each turn of the loops of `patterns::keep_all`.
use Rattle.std.proofs.Common.{take}
use Rattle.trust_groups.specs.Globs.{HaveGlobs, KeepGlobs}
use Rattle.trust_groups.proofs.patterns.keep_all.Given as goal

-- the globs of the lines so far are kept beside those that were kept before
abbrev pub invariant-loop-line : goal.invariant-loop-line
invariant-loop-line l = KeepGlobs l.fn.globs.entries l.globs.entries × HaveGlobs l.globs.entries l.kind (take l.line-index l.lines)
