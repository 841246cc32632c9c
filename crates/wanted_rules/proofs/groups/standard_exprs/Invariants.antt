-- What holds at each turn of the loops of `groups::standard_exprs`.
use Rattle.std.proofs.Common.{◌≡◌, filter, map, take}
use Rattle.wanted_expr.specs.Wanted.{formula_read, is_text, standard_text}
use Rattle.wanted_rules.proofs.groups.standard_exprs.Given as goal

-- the expressions of the groups so far
abbrev pub invariant-loop-group : goal.invariant-loop-group
invariant-loop-group l = map (λ e. e.now) l.exprs.items ≡ map formula_read (filter is_text (map (λ g. standard_text g.now) (take l.group-index l.groups)))
