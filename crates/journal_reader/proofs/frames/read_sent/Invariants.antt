-- What holds at each turn of the loops of `frames::read_sent`.
use Rattle.std.proofs.Common.{◌≡◌, None, length}
use Rattle.journal_reading.specs.Reading.{sent_in}
use Rattle.journal_reader.specs.Steps.{lines_in, last_of}
use Rattle.journal_reader.proofs.PushLemmas.{before_rest}
use Rattle.journal_reader.proofs.frames.read_sent.Given as goal

abbrev pub invariant-loop-frames : goal.invariant-loop-frames
invariant-loop-frames l = sent_in l.repos None (lines_in l.text) ≡ before_rest l.frames (sent_in l.repos (last_of l.frames) (lines_in l.rest))

abbrev pub decreases-loop-frames : goal.decreases-loop-frames
decreases-loop-frames l = length l.rest
