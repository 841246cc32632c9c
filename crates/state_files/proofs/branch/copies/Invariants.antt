-- What holds at each turn of the loops of `branch::copies`.
use Rattle.std.proofs.Common.{◌≡◌, take}
use Rattle.state_files.proofs.branch.copies.Given as goal

abbrev pub invariant-loop-line : goal.invariant-loop-line
invariant-loop-line l = l.copies.items ≡ take l.line-index l.lines
