-- What holds at each turn of the loops of `reading::settle`.
use Rattle.std.proofs.Common.{◌≡◌, [], length}
use Rattle.wanted_expr.specs.Formula.{formula_of}
use Rattle.wanted_expr.specs.Reading.{above, open_count, settle}
use Rattle.wanted_expr.proofs.reading.settle.Given as goal

abbrev pub invariant-loop-frame : goal.invariant-loop-frame
invariant-loop-frame l = record {
  same : settle (formula_of l.term) (above [] l.stack.items) ≡ settle (formula_of l.fn.term) (above [] l.fn.stack.items);
  counted : l.depth ≡ open_count (above [] l.stack.items);
}

abbrev pub decreases-loop-frame : goal.decreases-loop-frame
decreases-loop-frame l = length l.stack.items
