-- What holds at each turn of the loops of `index::Newest::read`.
use Rattle.std.proofs.Common.{◌≡◌, take}
use Rattle.log_lines.specs.Index.{index_of}
use Rattle.log_lines.proofs.index.Newest.read.Given as goal

-- the index is that of the lines so far
abbrev pub invariant-loop-line : goal.invariant-loop-line
invariant-loop-line l = l.index ≡ index_of l.fn.kind (take l.line-index l.lines)
