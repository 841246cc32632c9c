-- What the proof of `indexing::add_lines` needs beside the tactics.
use Rattle.std.proofs.Common.{take, ◌+◌}
use Rattle.trust_groups.specs.Adding.{lines_and}
use Rattle.trust_groups.specs.Reads.{lines_with}
use Rattle.store_entries.proofs.IndexLemmas.{next_more, none_more, reads_same}
use Rattle.store_entries.proofs.indexing.add_lines.Goals as goal

pub loop-line-init : goal.loop-line-init
loop-line-init c = λ was reads. reads_same c.args.settings.now was (lines_and was c.args.path.now (take 0 c.args.lines.now)) (λ q. none_more was c.args.path.now q) reads

pub loop-line-preserved : goal.loop-line-preserved
loop-line-preserved c = λ was reads.
    let path = c.args.path.now in
    let more = c.args.lines.now in
    let i = c.loop-line.line-index in
    let line = c.line-item.result in
    let so_far = lines_and was path (take i more) in
    reads_same c.add.new.self (lines_with so_far path line) (lines_and was path (take (i + 1) more))
    (λ q. next_more was path more i line q c.loop-line-test.true c.line-item.is)
    (c.in_ok-add.ensures.reads so_far (c.loop-line.invariant was reads))
