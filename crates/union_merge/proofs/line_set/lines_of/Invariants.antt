-- What holds at each turn of the loops of `line_set::lines_of`.
use Rattle.std.proofs.Common.{◌≡◌, take, map, filter, not}
use Rattle.union_merge.specs.LineSet.{is_empty}
use Rattle.union_merge.proofs.line_set.lines_of.Given as goal

abbrev pub invariant-loop-piece : goal.invariant-loop-piece
invariant-loop-piece l = l.lines.items ≡ filter (λ line. not (is_empty line)) (map (λ w. w.now) (take l.piece-index l.piece-items))
