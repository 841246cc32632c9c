-- What holds at each turn of the loops of `indexing::add_lines`.
use Rattle.std.proofs.Common.{take}
use Rattle.trust_groups.specs.Adding.{lines_and}
use Rattle.trust_groups.specs.Reads.{HaveReadLines}
use Rattle.trust_groups.specs.Settings.{Lines}
use Rattle.store_entries.proofs.indexing.add_lines.Given as goal

-- the lines so far were read beside those that were read before
abbrev pub invariant-loop-line : goal.invariant-loop-line
invariant-loop-line l = (was : Lines) → HaveReadLines l.fn.settings was → HaveReadLines l.settings (lines_and was l.path (take l.line-index l.lines))
