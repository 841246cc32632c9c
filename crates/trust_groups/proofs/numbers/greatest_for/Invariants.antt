-- What holds at each turn of the loops of `numbers::greatest_for`.
use Rattle.std.proofs.Common.{◌≡◌, None}
use Rattle.log_lines.specs.Index.{entries_in}
use Rattle.trust_groups.specs.Globs.{HaveGlobsOf, greatest, numbers_for}
use Rattle.trust_groups.specs.Settings.{patterns_of}
use Rattle.trust_groups.proofs.numbers.greatest_for.Given as goal

-- the greatest so far and of the entries that are left is that of all
abbrev pub invariant-loop-topic : goal.invariant-loop-topic
invariant-loop-topic l =
    (greatest l.found (numbers_for l.path (patterns_of (entries_in l.topic-iterator))) ≡ greatest None (numbers_for l.path (patterns_of (entries_in l.fn.entries)))) × HaveGlobsOf l.globs.entries (entries_in l.topic-iterator)
