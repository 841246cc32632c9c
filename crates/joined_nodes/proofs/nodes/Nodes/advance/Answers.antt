-- What the proof of `nodes::Nodes::advance` needs beside the tactics.
use Rattle.std.proofs.Common.{ap}
use Rattle.joined_nodes.proofs.Staying.{at_node, others_stay, read_at}
use Rattle.joined_nodes.proofs.Keeping.{Keeps, stay_paired}
use Rattle.joined_nodes.proofs.nodes.Nodes.advance.Goals as goal

pub invariant_of-self : goal.invariant_of-self
invariant_of-self g c =
    let keeps : Keeps c.index_mut.result.now c.advance.new.self = record { setup = ap (λ x. x.setup) c.advance.ensures; links = ap (λ x. x.parts.links) c.advance.ensures } in
    c.nodes_stay_joined.ensures c.self.inside.nodes.items c.args.repo c.index_mut.result.now c.advance.new.self c.self.invariant
    (read_at c.args.self.now c.self.inside.nodes.items c.args.repo c.index_mut.result.now c.self.view_is c.requires.there c.index_mut.ensures.value)
    keeps.setup (stay_paired c.index_mut.result.now c.advance.new.self keeps)

pub returns-clause-node : goal.returns-clause-node
returns-clause-node g c = at_node c.args.self.now c.self.inside.nodes.items c.args.repo c.index_mut.result.now c.advance.new.self c.self.view_is c.requires.there c.index_mut.ensures.value _ c.advance.ensures

pub returns-clause-others : goal.returns-clause-others
returns-clause-others g c = others_stay c.args.self.now c.self.inside.nodes.items c.args.repo c.advance.new.self c.self.view_is
