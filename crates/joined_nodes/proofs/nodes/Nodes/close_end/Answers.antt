-- What the proof of `nodes::Nodes::close_end` needs beside the tactics.
use Rattle.joined_nodes.proofs.Staying.{at_node, others_stay, read_at, whole_at}
use Rattle.joined_nodes.proofs.Keeping.{close_setup}
use Rattle.repo_node.specs.Closing.{ends_to}
use Rattle.repo_node.specs.Nodes.{told_of}
use Rattle.joined_nodes.proofs.nodes.Nodes.close_end.Goals as goal

pub invariant_of-self : goal.invariant_of-self
invariant_of-self g c =
    let was = c.index_mut.result.now in
    let now = c.close_end.new.self in
    c.nodes_stay_joined.ensures c.self.inside.nodes.items c.args.repo was now c.self.invariant (read_at c.args.self.now c.self.inside.nodes.items c.args.repo was c.self.view_is c.requires.there c.index_mut.ensures.value)
    (close_setup c.close_end.result (told_of (g.K.Keeper.contents was.keeper) (g.K.Keeper.parts was.keeper)) (ends_to c.args.peer) was now c.close_end.ensures.ok c.close_end.ensures.err) c.close_end.ensures.paired

pub close_end-requires-clause-known : goal.close_end-requires-clause-known
close_end-requires-clause-known g c = c.requires.known c.index_mut.result.now (whole_at c.args.self.now c.self.inside.nodes.items c.args.repo c.index_mut.result.now c.self.view_is c.requires.there c.index_mut.ensures.value)

pub close_end-requires-clause-other : goal.close_end-requires-clause-other
close_end-requires-clause-other g c = c.requires.other c.index_mut.result.now (whole_at c.args.self.now c.self.inside.nodes.items c.args.repo c.index_mut.result.now c.self.view_is c.requires.there c.index_mut.ensures.value)

pub returns-clause-ok : goal.returns-clause-ok
returns-clause-ok g c = at_node c.args.self.now c.self.inside.nodes.items c.args.repo c.index_mut.result.now c.close_end.new.self c.self.view_is c.requires.there c.index_mut.ensures.value _ c.close_end.ensures.ok

pub returns-clause-full : goal.returns-clause-full
returns-clause-full g c = at_node c.args.self.now c.self.inside.nodes.items c.args.repo c.index_mut.result.now c.close_end.new.self c.self.view_is c.requires.there c.index_mut.ensures.value _ c.close_end.ensures.full

pub returns-clause-lacks : goal.returns-clause-lacks
returns-clause-lacks g c = at_node c.args.self.now c.self.inside.nodes.items c.args.repo c.index_mut.result.now c.close_end.new.self c.self.view_is c.requires.there c.index_mut.ensures.value _ c.close_end.ensures.lacks

pub returns-clause-paired : goal.returns-clause-paired
returns-clause-paired g c = at_node c.args.self.now c.self.inside.nodes.items c.args.repo c.index_mut.result.now c.close_end.new.self c.self.view_is c.requires.there c.index_mut.ensures.value _ c.close_end.ensures.paired

pub returns-clause-err : goal.returns-clause-err
returns-clause-err g c = at_node c.args.self.now c.self.inside.nodes.items c.args.repo c.index_mut.result.now c.close_end.new.self c.self.view_is c.requires.there c.index_mut.ensures.value _ c.close_end.ensures.err

pub returns-clause-others : goal.returns-clause-others
returns-clause-others g c = others_stay c.args.self.now c.self.inside.nodes.items c.args.repo c.close_end.new.self c.self.view_is
