-- What the proof of `reading::settle` needs beside the tactics.
use Rattle.std.proofs.Common.{◌≡◌, ◌+◌, [], sym, ap, ◌∙◌, arith}
use Rattle.wanted_expr.specs.Formula.{formula_of}
use Rattle.wanted_expr.specs.Reading.{above, open_count, opens, pending_of, settle}
use Rattle.wanted_expr.proofs.StackLemmas.{above_pushed, settle_on}
use Rattle.wanted_expr.proofs.reading.settle.Goals as goal

pub overflow_sub-depth : goal.overflow_sub-depth
overflow_sub-depth c =
    let e : c.loop-frame.depth ≡ opens (pending_of c.in-Some.frame) + open_count (above [] c.pop_pending.new.stack.items) = c.loop-frame.invariant.counted ∙ ap open_count (above_pushed c.loop-frame.stack.items c.pop_pending.new.stack.items c.in-Some.frame c.in-Some.ensures.popped) in
    omega (arith, c.opens-depth.ensures)

pub loop-frame-preserved : goal.loop-frame-preserved
loop-frame-preserved c =
    let here = above_pushed c.loop-frame.stack.items c.pop_pending.new.stack.items c.in-Some.frame c.in-Some.ensures.popped in
    let e : c.loop-frame.depth ≡ opens (pending_of c.in-Some.frame) + open_count (above [] c.pop_pending.new.stack.items) = c.loop-frame.invariant.counted ∙ ap open_count here in
    record {
      same =
          ap (λ t. settle t (above [] c.pop_pending.new.stack.items)) c.in_ok-term.ensures
          ∙ (sym (settle_on (formula_of c.loop-frame.term) (pending_of c.in-Some.frame) (above [] c.pop_pending.new.stack.items) c.in-Some.ensures.pending)
          ∙ (ap (settle (formula_of c.loop-frame.term)) (sym here) ∙ c.loop-frame.invariant.same));
      counted = omega (arith, c.opens-depth.ensures);
    }
