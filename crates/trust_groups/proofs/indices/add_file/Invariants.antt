-- What holds at each turn of the loops of `indices::add_file`.
use Rattle.std.proofs.Common.{take}
use Rattle.trust_groups.specs.Settings.{Lines}
use Rattle.trust_groups.specs.Adding.{lines_and}
use Rattle.trust_groups.specs.Reads.{HaveReadLines, view_of}
use Rattle.trust_groups.proofs.indices.add_file.Given as goal

-- the lines so far were read beside those that were read before
abbrev pub invariant-loop-line : goal.invariant-loop-line
invariant-loop-line l = (lines : Lines) → HaveReadLines (view_of l.fn.files.entries) lines → HaveReadLines (view_of l.files.entries) (lines_and lines l.path (take l.line-index l.more))
