-- What holds at each turn of the loops of `line_set::append`.
use Rattle.std.proofs.Common.{◌≡◌, ◌+◌, ◌≤◌, ◌++◌, vec_len, vec_capacity, length}
use Rattle.std.specs.Vec.Iter.{into_iter_items}
use Rattle.union_merge.proofs.line_set.append.Given as goal

-- the lines so far, with those that are left, are all, and there is room for them
abbrev pub invariant-loop-line : goal.invariant-loop-line
invariant-loop-line l = record {
  all : l.lines.items ++ into_iter_items l.line-iterator ≡ l.fn.lines.items ++ l.fn.new.items;
  room : vec_len l.lines + length (into_iter_items l.line-iterator) ≤ vec_capacity l.lines;
}
