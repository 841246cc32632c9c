-- What holds at each turn of the loops of `claims::claims_by`.
use Rattle.std.proofs.Common.{◌≡◌, ◌++◌}
use Rattle.std.specs.Option.{option_copied}
use Rattle.log_lines.specs.Index.{entries_in}
use Rattle.trust_groups.specs.Kept.{claims_among, level_among}
use Rattle.trust_groups.specs.Reads.{entries_or_none}
use Rattle.trust_groups.proofs.claims.claims_by.Given as goal

-- the repositories so far and those of the entries that are left are all
abbrev pub invariant-loop-topic : goal.invariant-loop-topic
invariant-loop-topic l =
    l.repos.items ++ claims_among (level_among (entries_or_none (option_copied l.trust))) (entries_in l.topic-iterator) ≡ claims_among (level_among (entries_or_none (option_copied l.trust))) (entries_in l.fn.entries)
