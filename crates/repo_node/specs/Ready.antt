-- A node that is ready to crash (own).
use Rattle.std.specs.Borrow.{MutBor}
use Rattle.object_store.specs.declared.keeper.Keeper as keeper
use Rattle.node_steps.specs.Nodes.{NodeView}
use Rattle.repo_node.specs.declared.crashing.ReadyNode.{ReadyNode}

-- the node that it holds
abbrev pub held : {K : Type 0} {g : keeper.Ghosts K} → ReadyNode K g → MutBor (NodeView K)
held ready = ready.node
