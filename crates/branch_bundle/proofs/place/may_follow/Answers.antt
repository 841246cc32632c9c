-- What the proof of `place::may_follow` needs beside the tactics.
use Rattle.std.proofs.Common.{sym}
use Rattle.branch_bundle.proofs.TestLemmas.{may_follow_test, may_follow_below}
use Rattle.branch_bundle.proofs.place.may_follow.Goals as goal

pub returns-then-is_before : goal.returns-then-is_before
returns-then-is_before c = may_follow_test c.args.before.now c.args.path.now c.args.lines.now c.lines_end_well.result (sym c.if-is_before.ensures) c.lines_end_well.ensures

pub returns-else-is_before : goal.returns-else-is_before
returns-else-is_before c = may_follow_below c.args.before.now c.args.path.now c.args.lines.now c.is_before.result (sym c.if-is_before.ensures) c.if-is_before.false
