-- What holds at each turn of the loops of `line_set::lines_without`.
use Rattle.std.proofs.Common.{◌≡◌, take}
use Rattle.union_merge.specs.LineSet.{difference}
use Rattle.union_merge.proofs.line_set.lines_without.Given as goal

abbrev pub invariant-loop-line : goal.invariant-loop-line
invariant-loop-line l = l.new.items ≡ difference (take l.line-index l.lines) l.other
