-- What the proof of `indices::add_file` needs beside the tactics.
use Rattle.std.proofs.Common.{take, ◌+◌}
use Rattle.trust_groups.specs.Adding.{lines_and}
use Rattle.trust_groups.specs.Reads.{lines_with, view_of}
use Rattle.trust_groups.proofs.ReadsLemmas.{reads_same, next_more}
use Rattle.trust_groups.proofs.indices.add_file.Goals as goal

pub loop-line-preserved : goal.loop-line-preserved
loop-line-preserved c = λ lines reads.
    let path = c.args.path.now in
    let more = c.args.more.now in
    let i = c.loop-line.line-index in
    let line = c.line-item.result in
    let so_far = lines_and lines path (take i more) in
    reads_same (view_of c.add_line.new.files.entries) (lines_with so_far path line) (lines_and lines path (take (i + 1) more))
    (λ q. next_more lines path more i line q c.loop-line-test.true c.line-item.is)
    (c.in_ok-add_line.ensures.reads so_far (c.loop-line.invariant lines reads))
