-- What holds at each turn of the loops of `groups::preferred_exprs`.
use Rattle.std.proofs.Common.{◌≡◌, filter, map, take}
use Rattle.trust_groups.specs.View.{settings_of}
use Rattle.wanted_expr.specs.Wanted.{group_formula, is_text}
use Rattle.wanted_rules.proofs.groups.preferred_exprs.Given as goal

-- the expressions of the groups so far
abbrev pub invariant-loop-group : goal.invariant-loop-group
invariant-loop-group l = map (λ e. e.now) l.exprs.items ≡ map group_formula (filter is_text (map (λ g. (settings_of l.settings).group_preferred g.now) (take l.group-index l.groups)))
