-- What holds at each turn of the loops of `index::entries_of`.
use Rattle.std.proofs.Common.{◌≡◌}
use Rattle.log_lines.specs.Index.{entries_in}
use Rattle.log_lines.proofs.index.entries_of.Given as goal

-- the entries are those of the statements so far
abbrev pub invariant-loop-topic : goal.invariant-loop-topic
invariant-loop-topic l = l.entries.items ≡ entries_in l.yielded
