-- What the proof of `nodes::Nodes::compact` needs beside the tactics.
use Rattle.joined_nodes.proofs.Staying.{at_node, others_stay, read_at}
use Rattle.joined_nodes.proofs.Keeping.{Keeps, compact_keeps, stay_paired, walk_keeps}
use Rattle.std.specs.Map.{keys_of}
use Rattle.repo_node.specs.Walks.{compact_files}
use Rattle.joined_nodes.proofs.nodes.Nodes.compact.Goals as goal

pub invariant_of-self : goal.invariant_of-self
invariant_of-self g c =
    let keeps : Keeps c.index_mut.result.now c.compact.new.self = walk_keeps c.compact.result c.index_mut.result.now c.compact.new.self (compact_files c.index_mut.result.now) (keys_of c.index_mut.result.now.branch) (compact_keeps c.index_mut.result.now) c.compact.ensures.ok c.compact.ensures.err in
    c.nodes_stay_joined.ensures c.self.inside.nodes.items c.args.repo c.index_mut.result.now c.compact.new.self c.self.invariant
    (read_at c.args.self.now c.self.inside.nodes.items c.args.repo c.index_mut.result.now c.self.view_is c.requires.there c.index_mut.ensures.value)
    keeps.setup (stay_paired c.index_mut.result.now c.compact.new.self keeps)

pub returns-clause-ok : goal.returns-clause-ok
returns-clause-ok g c = at_node c.args.self.now c.self.inside.nodes.items c.args.repo c.index_mut.result.now c.compact.new.self c.self.view_is c.requires.there c.index_mut.ensures.value _ c.compact.ensures.ok

pub returns-clause-err : goal.returns-clause-err
returns-clause-err g c = at_node c.args.self.now c.self.inside.nodes.items c.args.repo c.index_mut.result.now c.compact.new.self c.self.view_is c.requires.there c.index_mut.ensures.value _ c.compact.ensures.err

pub returns-clause-contents : goal.returns-clause-contents
returns-clause-contents g c = at_node c.args.self.now c.self.inside.nodes.items c.args.repo c.index_mut.result.now c.compact.new.self c.self.view_is c.requires.there c.index_mut.ensures.value _ c.compact.ensures.contents

pub returns-clause-parts : goal.returns-clause-parts
returns-clause-parts g c = at_node c.args.self.now c.self.inside.nodes.items c.args.repo c.index_mut.result.now c.compact.new.self c.self.view_is c.requires.there c.index_mut.ensures.value _ c.compact.ensures.parts

pub returns-clause-records : goal.returns-clause-records
returns-clause-records g c = at_node c.args.self.now c.self.inside.nodes.items c.args.repo c.index_mut.result.now c.compact.new.self c.self.view_is c.requires.there c.index_mut.ensures.value _ c.compact.ensures.records

pub returns-clause-later : goal.returns-clause-later
returns-clause-later g c = at_node c.args.self.now c.self.inside.nodes.items c.args.repo c.index_mut.result.now c.compact.new.self c.self.view_is c.requires.there c.index_mut.ensures.value _ c.compact.ensures.later

pub returns-clause-cause : goal.returns-clause-cause
returns-clause-cause g c = at_node c.args.self.now c.self.inside.nodes.items c.args.repo c.index_mut.result.now c.compact.new.self c.self.view_is c.requires.there c.index_mut.ensures.value _ c.compact.ensures.cause

pub returns-clause-others : goal.returns-clause-others
returns-clause-others g c = others_stay c.args.self.now c.self.inside.nodes.items c.args.repo c.compact.new.self c.self.view_is

pub returns-clause-calls : goal.returns-clause-calls
returns-clause-calls g c = at_node c.args.self.now c.self.inside.nodes.items c.args.repo c.index_mut.result.now c.compact.new.self c.self.view_is c.requires.there c.index_mut.ensures.value _ c.compact.ensures.calls

pub returns-clause-alone : goal.returns-clause-alone
returns-clause-alone g c = at_node c.args.self.now c.self.inside.nodes.items c.args.repo c.index_mut.result.now c.compact.new.self c.self.view_is c.requires.there c.index_mut.ensures.value _ c.compact.ensures.alone

pub returns-clause-full : goal.returns-clause-full
returns-clause-full g c = at_node c.args.self.now c.self.inside.nodes.items c.args.repo c.index_mut.result.now c.compact.new.self c.self.view_is c.requires.there c.index_mut.ensures.value _ c.compact.ensures.full
