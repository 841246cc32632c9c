-- What the proof of `nodes::Nodes::fail_next` needs beside the tactics.
use Rattle.std.proofs.Common.{ap}
use Rattle.joined_nodes.proofs.Staying.{at_node, others_stay, read_at}
use Rattle.joined_nodes.proofs.Keeping.{Keeps, stay_paired}
use Rattle.joined_nodes.proofs.nodes.Nodes.fail_next.Goals as goal

pub invariant_of-self : goal.invariant_of-self
invariant_of-self g c =
    let keeps : Keeps c.index_mut.result.now c.fail_next.new.self = record { setup = ap (λ x. x.setup) c.fail_next.ensures.rest; links = ap (λ x. x.parts.links) c.fail_next.ensures.rest } in
    c.nodes_stay_joined.ensures c.self.inside.nodes.items c.args.repo c.index_mut.result.now c.fail_next.new.self c.self.invariant
    (read_at c.args.self.now c.self.inside.nodes.items c.args.repo c.index_mut.result.now c.self.view_is c.requires.there c.index_mut.ensures.value)
    keeps.setup (stay_paired c.index_mut.result.now c.fail_next.new.self keeps)

pub returns-clause-ok : goal.returns-clause-ok
returns-clause-ok g c = at_node c.args.self.now c.self.inside.nodes.items c.args.repo c.index_mut.result.now c.fail_next.new.self c.self.view_is c.requires.there c.index_mut.ensures.value _ c.fail_next.ensures.ok

pub returns-clause-err : goal.returns-clause-err
returns-clause-err g c = at_node c.args.self.now c.self.inside.nodes.items c.args.repo c.index_mut.result.now c.fail_next.new.self c.self.view_is c.requires.there c.index_mut.ensures.value _ c.fail_next.ensures.err

pub returns-clause-contents : goal.returns-clause-contents
returns-clause-contents g c = at_node c.args.self.now c.self.inside.nodes.items c.args.repo c.index_mut.result.now c.fail_next.new.self c.self.view_is c.requires.there c.index_mut.ensures.value _ c.fail_next.ensures.contents

pub returns-clause-parts : goal.returns-clause-parts
returns-clause-parts g c = at_node c.args.self.now c.self.inside.nodes.items c.args.repo c.index_mut.result.now c.fail_next.new.self c.self.view_is c.requires.there c.index_mut.ensures.value _ c.fail_next.ensures.parts

pub returns-clause-records : goal.returns-clause-records
returns-clause-records g c = at_node c.args.self.now c.self.inside.nodes.items c.args.repo c.index_mut.result.now c.fail_next.new.self c.self.view_is c.requires.there c.index_mut.ensures.value _ c.fail_next.ensures.records

pub returns-clause-files : goal.returns-clause-files
returns-clause-files g c = at_node c.args.self.now c.self.inside.nodes.items c.args.repo c.index_mut.result.now c.fail_next.new.self c.self.view_is c.requires.there c.index_mut.ensures.value _ c.fail_next.ensures.files

pub returns-clause-faults : goal.returns-clause-faults
returns-clause-faults g c = at_node c.args.self.now c.self.inside.nodes.items c.args.repo c.index_mut.result.now c.fail_next.new.self c.self.view_is c.requires.there c.index_mut.ensures.value _ c.fail_next.ensures.faults

pub returns-clause-rest : goal.returns-clause-rest
returns-clause-rest g c = at_node c.args.self.now c.self.inside.nodes.items c.args.repo c.index_mut.result.now c.fail_next.new.self c.self.view_is c.requires.there c.index_mut.ensures.value _ c.fail_next.ensures.rest

pub returns-clause-others : goal.returns-clause-others
returns-clause-others g c = others_stay c.args.self.now c.self.inside.nodes.items c.args.repo c.fail_next.new.self c.self.view_is
