-- What holds at each turn of the loop of `entry::lines_copy`.
use Rattle.std.proofs.Common.{◌≡◌, take}
use Rattle.entry_copies.proofs.entry.lines_copy.Given as goal

abbrev pub invariant-loop-line : goal.invariant-loop-line
invariant-loop-line l = l.copies ≡ take l.line-index l.lines
