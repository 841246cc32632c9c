-- What holds at each turn of the loops of `groups::grouped_by`.
use Rattle.std.proofs.Common.{◌≡◌, ◌++◌}
use Rattle.log_lines.specs.Index.{entries_in}
use Rattle.trust_groups.specs.Kept.{grouped_among}
use Rattle.trust_groups.proofs.groups.grouped_by.Given as goal

-- the repositories so far and those of the entries that are left are all
abbrev pub invariant-loop-topic : goal.invariant-loop-topic
invariant-loop-topic l = l.repos.items ++ grouped_among (entries_in l.topic-iterator) ≡ grouped_among (entries_in l.fn.entries)
