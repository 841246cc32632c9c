-- What the proof of `nodes::Nodes::turn` needs beside the tactics.
use Rattle.joined_nodes.proofs.Staying.{at_node, others_stay, read_at}
use Rattle.joined_nodes.proofs.Keeping.{turn_setup}
use Rattle.std.specs.Prelude.{map}
use Rattle.link_ring.specs.Ends.{after_drop}
use Rattle.repo_node.specs.Stored.{store_view}
use Rattle.joined_nodes.proofs.nodes.Nodes.turn.Goals as goal

pub invariant_of-self : goal.invariant_of-self
invariant_of-self g c =
    c.nodes_stay_joined.ensures c.self.inside.nodes.items c.args.repo c.index_mut.result.now c.turn.new.self c.self.invariant
    (read_at c.args.self.now c.self.inside.nodes.items c.args.repo c.index_mut.result.now c.self.view_is c.requires.there c.index_mut.ensures.value)
    (turn_setup c.turn.result c.index_mut.result.now c.turn.new.self (map after_drop c.index_mut.result.now.parts.links) (store_view (g.K.Keeper.contents c.index_mut.result.now.keeper) (g.K.Keeper.parts c.index_mut.result.now.keeper) (g.K.Keeper.failing c.index_mut.result.now.keeper) (g.K.Keeper.faults c.index_mut.result.now.keeper))
    (store_view (g.K.Keeper.contents c.turn.new.self.keeper) (g.K.Keeper.parts c.turn.new.self.keeper) (g.K.Keeper.failing c.turn.new.self.keeper) (g.K.Keeper.faults c.turn.new.self.keeper))
    c.turn.ensures.moved c.turn.ensures.stays) c.turn.ensures.paired

pub returns-clause-moved : goal.returns-clause-moved
returns-clause-moved g c = at_node c.args.self.now c.self.inside.nodes.items c.args.repo c.index_mut.result.now c.turn.new.self c.self.view_is c.requires.there c.index_mut.ensures.value _ c.turn.ensures.moved

pub returns-clause-step : goal.returns-clause-step
returns-clause-step g c = at_node c.args.self.now c.self.inside.nodes.items c.args.repo c.index_mut.result.now c.turn.new.self c.self.view_is c.requires.there c.index_mut.ensures.value _ c.turn.ensures.step

pub returns-clause-idle : goal.returns-clause-idle
returns-clause-idle g c = at_node c.args.self.now c.self.inside.nodes.items c.args.repo c.index_mut.result.now c.turn.new.self c.self.view_is c.requires.there c.index_mut.ensures.value _ c.turn.ensures.idle

pub returns-clause-full : goal.returns-clause-full
returns-clause-full g c = at_node c.args.self.now c.self.inside.nodes.items c.args.repo c.index_mut.result.now c.turn.new.self c.self.view_is c.requires.there c.index_mut.ensures.value _ c.turn.ensures.full

pub returns-clause-ready : goal.returns-clause-ready
returns-clause-ready g c = at_node c.args.self.now c.self.inside.nodes.items c.args.repo c.index_mut.result.now c.turn.new.self c.self.view_is c.requires.there c.index_mut.ensures.value _ c.turn.ensures.ready

pub returns-clause-stays : goal.returns-clause-stays
returns-clause-stays g c = at_node c.args.self.now c.self.inside.nodes.items c.args.repo c.index_mut.result.now c.turn.new.self c.self.view_is c.requires.there c.index_mut.ensures.value _ c.turn.ensures.stays

pub returns-clause-short : goal.returns-clause-short
returns-clause-short g c = at_node c.args.self.now c.self.inside.nodes.items c.args.repo c.index_mut.result.now c.turn.new.self c.self.view_is c.requires.there c.index_mut.ensures.value _ c.turn.ensures.short

pub returns-clause-unasked : goal.returns-clause-unasked
returns-clause-unasked g c = at_node c.args.self.now c.self.inside.nodes.items c.args.repo c.index_mut.result.now c.turn.new.self c.self.view_is c.requires.there c.index_mut.ensures.value _ c.turn.ensures.unasked

pub returns-clause-told_parts : goal.returns-clause-told_parts
returns-clause-told_parts g c = at_node c.args.self.now c.self.inside.nodes.items c.args.repo c.index_mut.result.now c.turn.new.self c.self.view_is c.requires.there c.index_mut.ensures.value _ c.turn.ensures.told_parts

pub returns-clause-small : goal.returns-clause-small
returns-clause-small g c = at_node c.args.self.now c.self.inside.nodes.items c.args.repo c.index_mut.result.now c.turn.new.self c.self.view_is c.requires.there c.index_mut.ensures.value _ c.turn.ensures.small

pub returns-clause-told_contents : goal.returns-clause-told_contents
returns-clause-told_contents g c = at_node c.args.self.now c.self.inside.nodes.items c.args.repo c.index_mut.result.now c.turn.new.self c.self.view_is c.requires.there c.index_mut.ensures.value _ c.turn.ensures.told_contents

pub returns-clause-paired : goal.returns-clause-paired
returns-clause-paired g c = at_node c.args.self.now c.self.inside.nodes.items c.args.repo c.index_mut.result.now c.turn.new.self c.self.view_is c.requires.there c.index_mut.ensures.value _ c.turn.ensures.paired

pub returns-clause-later : goal.returns-clause-later
returns-clause-later g c = at_node c.args.self.now c.self.inside.nodes.items c.args.repo c.index_mut.result.now c.turn.new.self c.self.view_is c.requires.there c.index_mut.ensures.value _ c.turn.ensures.later

pub returns-clause-others : goal.returns-clause-others
returns-clause-others g c = others_stay c.args.self.now c.self.inside.nodes.items c.args.repo c.turn.new.self c.self.view_is
