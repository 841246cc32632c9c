-- What holds at each turn of the loops of `line_set::put_each`.
use Rattle.std.proofs.Common.{◌≡◌, ◌+◌, ◌≤◌, vec_len, vec_capacity, length}
use Rattle.std.specs.Vec.Iter.{into_iter_items}
use Rattle.annex_base.specs.ByteOrder.{IsInOrder}
use Rattle.union_merge.specs.LineSet.{union}
use Rattle.union_merge.proofs.line_set.put_each.Given as goal

-- the lines so far, with those that are left, are all, and there is room for them
abbrev pub invariant-loop-line : goal.invariant-loop-line
invariant-loop-line l = record {
  all : union l.lines.items (into_iter_items l.line-iterator) ≡ union l.fn.lines.items l.fn.new.items;
  order : IsInOrder l.lines.items;
  room : vec_len l.lines + length (into_iter_items l.line-iterator) ≤ vec_capacity l.lines;
}
