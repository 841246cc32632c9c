-- What the proof of `line_set::put_each` needs beside the tactics.
use Rattle.std.proofs.Common.{◌∙◌, sym, ap, subst, arith}
use Rattle.std.specs.Vec.Iter.{into_iter_items}
use Rattle.annex_base.specs.ByteOrder.{IsInOrder}
use Rattle.union_merge.specs.LineSet.{union}
use Rattle.union_merge.proofs.SetLemmas.{Lines, with_line-in_order}
use Rattle.union_merge.proofs.line_set.put_each.Goals as goal

pub loop-line-preserved : goal.loop-line-preserved
loop-line-preserved c = record {
  all =
      ap (λ (w : Lines). union w (into_iter_items c.next.new.self)) c.put_line.ensures.items
      ∙ sym (ap (union c.loop-line.lines.items) c.in-Some.ensures.steps.0) ∙ c.loop-line.invariant.all;
  order = subst IsInOrder (sym c.put_line.ensures.items) (with_line-in_order c.in-Some.line c.loop-line.lines.items c.loop-line.invariant.order);
  room = grind (arith, c.put_line.ensures.len, c.put_line.ensures.capacity, c.loop-line.invariant.room, c.in-Some.ensures.steps.0);
}
