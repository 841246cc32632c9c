-- What holds at each turn of the loops of `carrying::carry_slots`.
use Rattle.std.proofs.Common.{◌≡◌, true}
use Rattle.node_ends.specs.Carrying.{AreCarriedTo}
use Rattle.node_ends.specs.Invariant.{each_may_close}
use Rattle.node_ends.proofs.carrying.carry_slots.Given as goal

abbrev pub invariant-loop-slot : goal.invariant-loop-slot
invariant-loop-slot l = record {
  first : AreCarriedTo l.slot l.a_number l.b_number l.fn.a.items l.a.items l.fn.b.items;
  second : AreCarriedTo l.slot l.b_number l.a_number l.fn.b.items l.b.items l.fn.a.items;
  close_a : each_may_close l.a.items ≡ true;
  close_b : each_may_close l.b.items ≡ true;
}
