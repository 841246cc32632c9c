-- What holds at each turn of the loops of `exprs::keep_all`.
use Rattle.std.proofs.Common.{take}
use Rattle.trust_groups.specs.Exprs.{HaveExprsSaid, KeepExprs}
use Rattle.trust_groups.proofs.exprs.keep_all.Given as goal

-- the expressions of the lines so far are kept beside those that were kept before
abbrev pub invariant-loop-line : goal.invariant-loop-line
invariant-loop-line l = KeepExprs l.fn.exprs l.exprs × HaveExprsSaid l.exprs l.kind (take l.line-index l.lines)
