-- What holds at each turn of the loop of `index::take_in`.
use Rattle.std.proofs.Common.{◌≡◌, ◌+◌, take}
use Rattle.run_paths.specs.Paths.{with_marks}
use Rattle.run_paths.proofs.index.take_in.Given as goal

abbrev pub invariant-loop-mark : goal.invariant-loop-mark
invariant-loop-mark l = record {
  tree : l.tree ≡ with_marks l.initial.tree (take l.mark-index l.marks);
  taken : l.taken ≡ l.initial.taken + l.mark-index;
}
