-- What holds at each turn of the loop of `carrying::carry_all`.
use Rattle.joined_nodes.specs.Carrying.{AreCarriedTo}
use Rattle.joined_nodes.proofs.carrying.carry_all.Given as goal

abbrev pub invariant-loop-other : goal.invariant-loop-other
invariant-loop-other g l = AreCarriedTo l.other l.repo l.fn.nodes l.nodes
