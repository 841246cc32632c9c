-- What holds at each turn of the loops of `logs::put_text`.
use Rattle.std.proofs.Common.{◌≡◌, ◌++◌, take}
use Rattle.union_merge.specs.LineSet.{text_of}
use Rattle.shown_text.proofs.logs.put_text.Given as goal

abbrev pub invariant-loop-line : goal.invariant-loop-line
invariant-loop-line l = l.out.items ≡ l.fn.out.items ++ text_of (take l.line-index l.lines)
