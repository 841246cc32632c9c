-- What the proof of `frames::read_sent` needs beside the tactics.
use Rattle.std.proofs.Common.{◌≡◌, ◌∙◌, List, Option, None, Some, sym, ap}
use Rattle.run_data.specs.declared.entry.FrameView.{FrameView}
use Rattle.journal_reading.specs.Reading.{sent_in}
use Rattle.journal_reader.specs.Steps.{lines_in, last_of, next_sent}
use Rattle.journal_reader.proofs.FrameLemmas.{sent_more, sent_end}
use Rattle.journal_reader.proofs.frames.read_sent.Goals as goal

pub loop-frames-preserved : goal.loop-frames-preserved
loop-frames-preserved c =
    let last = c.last.ensures.value ∙ ap (λ (fs : List FrameView). last_of fs) c.as_slice.ensures in
    let next : Some (c.in-Some.frame, lines_in c.in-Some.after.now) ≡ next_sent c.args.repos.now (last_of c.loop-frames.frames) (lines_in c.loop-frames.rest.now) = (rw c.in-Some.is at c.in_ok-frame.ensures.next) ∙ ap (λ (o : Option FrameView). next_sent c.args.repos.now o (lines_in c.loop-frames.rest.now)) last in
    rw c.in_ok-push.ensures.ok
    (sent_more c.args.repos.now c.loop-frames.frames (sent_in c.args.repos.now None (lines_in c.args.text.now)) (lines_in c.loop-frames.rest.now) (c.in-Some.frame, lines_in c.in-Some.after.now) c.loop-frames.invariant (sym next))

pub returns : goal.returns
returns c =
    let last = c.last.ensures.value ∙ ap (λ (fs : List FrameView). last_of fs) c.as_slice.ensures in
    let none : None ≡ next_sent c.args.repos.now (last_of c.loop-frames.frames) (lines_in c.loop-frames.rest.now) = (rw c.in_default.is at c.in_ok-frame.ensures.next) ∙ ap (λ (o : Option FrameView). next_sent c.args.repos.now o (lines_in c.loop-frames.rest.now)) last in
    sym (sent_end c.args.repos.now c.loop-frames.frames (sent_in c.args.repos.now None (lines_in c.args.text.now)) (lines_in c.loop-frames.rest.now) c.loop-frames.invariant (sym none))
