-- What the proof of `set_up::read_marks` needs beside the tactics.
use Rattle.std.proofs.Common.{◌≡◌, None, Some, sym}
use Rattle.journal_reading.specs.Reading.{marks_in}
use Rattle.journal_reader.specs.Steps.{lines_in, next_mark}
use Rattle.journal_reader.proofs.SetUpLemmas.{mark_more, mark_end}
use Rattle.journal_reader.proofs.set_up.read_marks.Goals as goal

pub loop-marks-preserved : goal.loop-marks-preserved
loop-marks-preserved c =
    let next : Some (c.in-Some.mark, lines_in c.in-Some.after.now) ≡ next_mark c.loop-marks.last c.args.most (lines_in c.loop-marks.rest.now) = rw c.in-Some.is at c.in_ok-mark.ensures.next in
    rw c.in_ok-push.ensures.ok
    (mark_more c.loop-marks.last c.args.most c.loop-marks.marks (marks_in 0 c.args.most (lines_in c.args.text.now)) (lines_in c.loop-marks.rest.now) (c.in-Some.mark, lines_in c.in-Some.after.now) c.loop-marks.invariant (sym next))

pub returns : goal.returns
returns c =
    let none : None ≡ next_mark c.loop-marks.last c.args.most (lines_in c.loop-marks.rest.now) = rw c.in_default.is at c.in_ok-mark.ensures.next in
    sym (mark_end c.loop-marks.last c.args.most c.loop-marks.marks (marks_in 0 c.args.most (lines_in c.args.text.now)) (lines_in c.loop-marks.rest.now) c.loop-marks.invariant (sym none))
