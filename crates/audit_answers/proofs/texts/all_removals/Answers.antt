-- What the proof of `texts::all_removals` needs beside the tactics.
use Rattle.std.proofs.Common.{arith}
use Rattle.audit_answers.proofs.Written.{removals_more}
use Rattle.audit_answers.proofs.texts.all_removals.Goals as goal

pub loop-key-preserved : goal.loop-key-preserved
loop-key-preserved c =
    let was = c.loop-key.invariant.0 in
    let low = c.loop-key.invariant.1 in
    let more = removals_more c.args.keys.now c.loop-key.key-index c.key-item.result c.loop-key-test.true c.key-item.is in
    let now = c.from-count.ensures in
    (omega (arith, was, more, now), omega (arith, low, now))
