-- What holds at each turn of the loops of `set_up::read_marks`.
use Rattle.std.proofs.Common.{◌≡◌, length}
use Rattle.journal_reading.specs.Reading.{marks_in}
use Rattle.journal_reader.specs.Steps.{lines_in}
use Rattle.journal_reader.proofs.PushLemmas.{before_rest}
use Rattle.journal_reader.proofs.set_up.read_marks.Given as goal

abbrev pub invariant-loop-marks : goal.invariant-loop-marks
invariant-loop-marks l = marks_in 0 l.most (lines_in l.text) ≡ before_rest l.marks (marks_in l.last l.most (lines_in l.rest))

abbrev pub decreases-loop-marks : goal.decreases-loop-marks
decreases-loop-marks l = length l.rest
