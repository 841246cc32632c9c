-- What the proof of `one_topic::newest_of` needs beside the tactics.
use Rattle.std.proofs.Common.{sym, ap, ◌∙◌}
use Rattle.log_grammar.specs.Reading.{entry_of}
use Rattle.log_lines.specs.Latest.{said_of, newer_of}
use Rattle.log_lines.proofs.NewestLemmas.{newest_of-take}
use Rattle.log_lines.proofs.one_topic.newest_of.Goals as goal

pub loop-line-preserved : goal.loop-line-preserved
loop-line-preserved c =
    let said = c.said_of.ensures ∙ ap (said_of c.args.topic.now) (c.in_ok-entry.ensures.exact ∙ ap (entry_of c.args.kind) c.bytes.ensures) in
    c.newer_of-known.ensures
    ∙ ap (newer_of c.loop-line.known) said
    ∙ ap (λ known. newer_of known (said_of c.args.topic.now (entry_of c.args.kind c.line-item.result))) c.loop-line.invariant
    ∙ sym (newest_of-take c.args.kind c.args.lines.now c.loop-line.line-index c.line-item.result c.args.topic.now c.loop-line-test.true c.line-item.is)
