-- What the proof of `trees::passed` needs beside the tactics.
use Rattle.std.proofs.Common.{ap, arith, ◌<◌}
use Rattle.run_data.specs.declared.run.TreeMark.{TreeMark}
use Rattle.step_rules.proofs.Marks.{later_from}
use Rattle.step_rules.proofs.Places.{at_of}
use Rattle.step_rules.proofs.trees.passed.Goals as goal

pub returns-else-from-place-clause-later : goal.returns-else-from-place-clause-later
returns-else-from-place-clause-later c =
    let m = c.index-marks-count.result in
    let test = c.if-from-place.false in
    let same = c.from.ensures in
    let it = ap (λ (x : TreeMark). x.place) c.index-marks-count.is in
    let past : c.args.place < m.place = omega (arith, test, same, it) in
    later_from c.args.place 0 c.args.marks.now c.loop-count.count m c.requires.order (at_of c.args.marks.now c.loop-count.count m c.loop-count-test.true c.index-marks-count.is) past
