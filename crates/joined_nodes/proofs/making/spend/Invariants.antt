-- Nodes are left.
use Rattle.std.proofs.Common.{vec_len}
use Rattle.joined_nodes.proofs.making.spend.Given as goal

abbrev pub invariant-loop-node : goal.invariant-loop-node
invariant-loop-node g l = Unit {0}

abbrev pub decreases-loop-node : goal.decreases-loop-node
decreases-loop-node g l = vec_len l.nodes
