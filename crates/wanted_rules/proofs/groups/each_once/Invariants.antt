-- What holds at each turn of the loops of `groups::each_once`.
use Rattle.std.proofs.Common.{◌≡◌, map, take}
use Rattle.annex_key.specs.Tree.{each_once}
use Rattle.wanted_rules.proofs.groups.each_once.Given as goal

-- each of the groups so far, once
abbrev pub invariant-loop-group : goal.invariant-loop-group
invariant-loop-group l = map (λ g. g.now) l.once.items ≡ each_once (take l.group-index l.groups)
