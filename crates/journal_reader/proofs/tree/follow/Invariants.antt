-- What holds at each turn of the loops of `tree::follow`.
use Rattle.std.proofs.Common.{◌≡◌, ◌≤◌, ℕ, length}
use Rattle.journal_reading.specs.Lines.{tree_from}
use Rattle.journal_reader.proofs.tree.follow.Given as goal

abbrev pub invariant-loop-mark : goal.invariant-loop-mark
invariant-loop-mark l = (n : ℕ) → l.place ≤ n → tree_from l.fn.tree l.marks n ≡ tree_from l.tree l.left n

abbrev pub decreases-loop-mark : goal.decreases-loop-mark
decreases-loop-mark l = length l.left
