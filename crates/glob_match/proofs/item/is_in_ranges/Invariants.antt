-- What holds at each turn of the loops of `item::is_in_ranges`.
use Rattle.std.proofs.Common.{◌≡◌, length}
use Rattle.glob_match.specs.Glob.{in_ranges}
use Rattle.glob_match.proofs.item.is_in_ranges.Given as goal

abbrev pub invariant-loop-first : goal.invariant-loop-first
invariant-loop-first l = in_ranges l.members l.c ≡ in_ranges l.rest l.c

abbrev pub decreases-loop-first : goal.decreases-loop-first
decreases-loop-first l = length l.rest
