-- What holds at each turn of the loops of `facts::members_among`.
use Rattle.std.proofs.Common.{◌≡◌, take}
use Rattle.trust_groups.specs.View.{settings_of}
use Rattle.wanted_rules.specs.Reads.{members_among}
use Rattle.wanted_rules.proofs.facts.members_among.Given as goal

-- the members among the repositories so far
abbrev pub invariant-loop-repo : goal.invariant-loop-repo
invariant-loop-repo l = l.members ≡ members_among (settings_of l.settings) (take l.repo-index l.repos)
