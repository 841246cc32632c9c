-- What the proof of `node::Node::fall` needs beside the tactics.
use Rattle.std.proofs.Common.{subst, sym}
use Rattle.node_ends.specs.Joined.{StayPaired}
use Rattle.node_steps.specs.Crashing.{Crashes, HasRoom}
use Rattle.node_steps.specs.Nodes.{beside, told_of}
use Rattle.repo_node.proofs.node.Node.fall.Goals as goal

pub crash-requires-clause-room : goal.crash-requires-clause-room
crash-requires-clause-room g c = subst (λ v. HasRoom c.args.room v) (sym c.self.view_is) c.requires.room

pub returns-clause-ok : goal.returns-clause-ok
returns-clause-ok g c =
    let w = c.crash in
    subst (λ v. Crashes (told_of (g.K.Keeper.contents v.keeper) (g.K.Keeper.parts v.keeper)) c.args.clock v (beside w.new.parts w.new.ledger)) c.self.view_is w.ensures.ok

pub returns-clause-paired : goal.returns-clause-paired
returns-clause-paired g c =
    let w = c.crash in
    subst (λ v. StayPaired v.parts.links w.new.parts.links) c.self.view_is w.ensures.paired
