-- What holds at each turn of the loops of `facts::claimed_by`.
use Rattle.std.proofs.Common.{◌≡◌, take}
use Rattle.trust_groups.specs.View.{settings_of}
use Rattle.wanted_rules.specs.Reads.{claimed_by}
use Rattle.wanted_rules.proofs.facts.claimed_by.Given as goal

-- the claimants of the repositories so far
abbrev pub invariant-loop-other : goal.invariant-loop-other
invariant-loop-other l = l.claimed ≡ claimed_by (settings_of l.settings) l.repo l.gone (take l.other-index l.repos)
