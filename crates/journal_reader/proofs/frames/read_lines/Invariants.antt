-- What holds at each turn of the loops of `frames::read_lines`.
use Rattle.std.proofs.Common.{◌≡◌, None}
use Rattle.journal_reading.specs.Reading.{added_in}
use Rattle.journal_reader.specs.Steps.{lines_in, last_of}
use Rattle.journal_reader.proofs.PushLemmas.{behind_these}
use Rattle.journal_reader.proofs.frames.read_lines.Given as goal

abbrev pub invariant-loop-left : goal.invariant-loop-left
invariant-loop-left l = added_in l.count None (lines_in l.text) ≡ behind_these l.added (added_in l.left (last_of l.added) (lines_in l.rest))

abbrev pub decreases-loop-left : goal.decreases-loop-left
decreases-loop-left l = l.left
