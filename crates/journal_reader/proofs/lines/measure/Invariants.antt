-- What holds at each turn of the loops of `lines::measure`.
use Rattle.std.proofs.Common.{◌≡◌, ◌≤◌, ◌+◌, length}
use Rattle.journal_reading.specs.Reading.{lines_of}
use Rattle.journal_reader.specs.Steps.{lines_in}
use Rattle.journal_reader.proofs.lines.measure.Given as goal

abbrev pub invariant-loop-after : goal.invariant-loop-after
invariant-loop-after l = record {
  count : l.count + length (lines_in l.rest) ≡ length (lines_in l.text);
  tail : (lines_of l.rest).1 ≡ (lines_of l.text).1;
  few : l.count + length l.rest ≤ length l.text;
}

abbrev pub decreases-loop-after : goal.decreases-loop-after
decreases-loop-after l = length l.rest
