-- Those of the nodes that were passed.
use Rattle.std.proofs.Common.{◌≤◌, length, take}
use Rattle.annex_base.specs.Lists.{Each}
use Rattle.run_data.specs.Histories.{most_entries}
use Rattle.joined_nodes.proofs.nodes.Nodes.histories_are_few.Given as goal

abbrev pub invariant-loop-node : goal.invariant-loop-node
invariant-loop-node g l = Each (λ n. length n.history ≤ most_entries) (take l.node-index l.node-items)
