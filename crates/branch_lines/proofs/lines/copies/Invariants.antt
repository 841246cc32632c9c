-- What holds at each turn of the loops of `lines::copies`.
use Rattle.std.proofs.Common.{◌≡◌, take}
use Rattle.branch_lines.proofs.lines.copies.Given as goal

abbrev pub invariant-loop-line : goal.invariant-loop-line
invariant-loop-line l = l.all.items ≡ take l.line-index l.lines
