-- What the proof of `place::lines_end_well` needs beside the tactics.
use Rattle.std.proofs.Common.{◌∙◌, ◌-◌, ◌≡◌, suc, sym, arith}
use Rattle.branch_bundle.proofs.EndLemmas.{next_good, next_bad, last_none, last_some, is_empty-length}
use Rattle.branch_bundle.proofs.place.lines_end_well.Goals as goal

pub returns-then-not-is_before : goal.returns-then-not-is_before
returns-then-not-is_before c = sym (c.loop-next.invariant ∙ next_bad c.loop-next.line.now c.loop-next.rest.now c.in-Some.next.now c.in-Some.after.now c.args.left c.in-Some.ensures (sym c.if-not-is_before.ensures))

pub loop-next-preserved : goal.loop-next-preserved
loop-next-preserved c = c.loop-next.invariant ∙ next_good c.loop-next.line.now c.loop-next.rest.now c.in-Some.next.now c.in-Some.after.now c.args.left c.in-Some.ensures (sym c.if-not-is_before.ensures)

pub returns-then-left-eq0 : goal.returns-then-left-eq0
returns-then-left-eq0 c =
    c.is_empty.ensures ∙ sym (is_empty-length c.loop-next.rest.now) ∙ sym (last_none c.loop-next.line.now c.loop-next.rest.now c.args.left c.in_default.ensures c.if-left-eq0.true) ∙ sym c.loop-next.invariant

pub returns-else-left-eq0 : goal.returns-else-left-eq0
returns-else-left-eq0 c =
    let some : c.args.left ≡ suc (c.args.left - 1) = omega arith in
    c.is_before_filled.ensures ∙ sym (last_some c.loop-next.line.now c.loop-next.rest.now c.args.left (c.args.left - 1) c.in_default.ensures some) ∙ sym c.loop-next.invariant
