-- What the proof of `nodes::Nodes::crash` needs beside the tactics.
use Rattle.joined_nodes.proofs.Staying.{at_node, others_stay, read_at}
use Rattle.joined_nodes.proofs.Keeping.{crash_setup}
use Rattle.repo_node.specs.Nodes.{told_of}
use Rattle.joined_nodes.proofs.nodes.Nodes.crash.Goals as goal

pub invariant_of-self : goal.invariant_of-self
invariant_of-self g c =
    let was = c.index_mut.result.now in
    let now = c.crash.new.node in
    c.nodes_stay_joined.ensures c.self.inside.nodes.items c.args.repo was now c.self.invariant (read_at c.args.self.now c.self.inside.nodes.items c.args.repo was c.self.view_is c.requires.there c.index_mut.ensures.value)
    (crash_setup c.crash.result (told_of (g.K.Keeper.contents was.keeper) (g.K.Keeper.parts was.keeper)) c.args.clock was now c.crash.ensures.ok c.crash.ensures.err) c.crash.ensures.paired

pub returns-clause-ok : goal.returns-clause-ok
returns-clause-ok g c = at_node c.args.self.now c.self.inside.nodes.items c.args.repo c.index_mut.result.now c.crash.new.node c.self.view_is c.requires.there c.index_mut.ensures.value _ c.crash.ensures.ok

pub returns-clause-full : goal.returns-clause-full
returns-clause-full g c = at_node c.args.self.now c.self.inside.nodes.items c.args.repo c.index_mut.result.now c.crash.new.node c.self.view_is c.requires.there c.index_mut.ensures.value _ c.crash.ensures.full

pub returns-clause-lacks : goal.returns-clause-lacks
returns-clause-lacks g c = at_node c.args.self.now c.self.inside.nodes.items c.args.repo c.index_mut.result.now c.crash.new.node c.self.view_is c.requires.there c.index_mut.ensures.value _ c.crash.ensures.lacks

pub returns-clause-paired : goal.returns-clause-paired
returns-clause-paired g c = at_node c.args.self.now c.self.inside.nodes.items c.args.repo c.index_mut.result.now c.crash.new.node c.self.view_is c.requires.there c.index_mut.ensures.value _ c.crash.ensures.paired

pub returns-clause-err : goal.returns-clause-err
returns-clause-err g c = at_node c.args.self.now c.self.inside.nodes.items c.args.repo c.index_mut.result.now c.crash.new.node c.self.view_is c.requires.there c.index_mut.ensures.value _ c.crash.ensures.err

pub returns-clause-others : goal.returns-clause-others
returns-clause-others g c = others_stay c.args.self.now c.self.inside.nodes.items c.args.repo c.crash.new.node c.self.view_is
