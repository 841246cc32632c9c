-- What holds at each turn of the loops of `facts::add_groups`.
use Rattle.std.proofs.Common.{◌≡◌, ◌++◌, take}
use Rattle.wanted_rules.specs.Reads.{members_of}
use Rattle.wanted_rules.proofs.facts.add_groups.Given as goal

-- the repository in the groups so far
abbrev pub invariant-loop-group : goal.invariant-loop-group
invariant-loop-group l = l.members ≡ l.fn.members ++ members_of l.repo (take l.group-index l.groups)
