-- What holds at each turn of the loops of `exprs::keep_standard`.
use Rattle.std.proofs.Common.{map, take}
use Rattle.wanted_expr.specs.Wanted.{standard_text}
use Rattle.trust_groups.specs.Exprs.{HaveExprs, KeepExprs}
use Rattle.trust_groups.proofs.exprs.keep_standard.Given as goal

-- the expressions of the groups so far are kept beside those that were kept before
abbrev pub invariant-loop-group : goal.invariant-loop-group
invariant-loop-group l = KeepExprs l.fn.exprs l.exprs × HaveExprs l.exprs (map standard_text (take l.group-index l.groups))
