-- What the proof of `nodes::Nodes::write_raw` needs beside the tactics.
use Rattle.std.proofs.Common.{◌∷◌, []}
use Rattle.joined_nodes.proofs.Staying.{at_node, others_stay, read_at}
use Rattle.joined_nodes.proofs.Keeping.{Keeps, stay_paired, write_keeps}
use Rattle.run_data.specs.Files.{file_of}
use Rattle.joined_nodes.proofs.nodes.Nodes.write_raw.Goals as goal

pub invariant_of-self : goal.invariant_of-self
invariant_of-self g c =
    let keeps : Keeps c.index_mut.result.now c.write_raw.new.self = write_keeps c.write_raw.result c.index_mut.result.now c.write_raw.new.self (file_of c.args.path.now) (c.args.line.now ∷ []) c.write_raw.ensures.ok c.write_raw.ensures.err in
    c.nodes_stay_joined.ensures c.self.inside.nodes.items c.args.repo c.index_mut.result.now c.write_raw.new.self c.self.invariant
    (read_at c.args.self.now c.self.inside.nodes.items c.args.repo c.index_mut.result.now c.self.view_is c.requires.there c.index_mut.ensures.value)
    keeps.setup (stay_paired c.index_mut.result.now c.write_raw.new.self keeps)

pub returns-clause-ok : goal.returns-clause-ok
returns-clause-ok g c = at_node c.args.self.now c.self.inside.nodes.items c.args.repo c.index_mut.result.now c.write_raw.new.self c.self.view_is c.requires.there c.index_mut.ensures.value _ c.write_raw.ensures.ok

pub returns-clause-err : goal.returns-clause-err
returns-clause-err g c = at_node c.args.self.now c.self.inside.nodes.items c.args.repo c.index_mut.result.now c.write_raw.new.self c.self.view_is c.requires.there c.index_mut.ensures.value _ c.write_raw.ensures.err

pub returns-clause-contents : goal.returns-clause-contents
returns-clause-contents g c = at_node c.args.self.now c.self.inside.nodes.items c.args.repo c.index_mut.result.now c.write_raw.new.self c.self.view_is c.requires.there c.index_mut.ensures.value _ c.write_raw.ensures.contents

pub returns-clause-parts : goal.returns-clause-parts
returns-clause-parts g c = at_node c.args.self.now c.self.inside.nodes.items c.args.repo c.index_mut.result.now c.write_raw.new.self c.self.view_is c.requires.there c.index_mut.ensures.value _ c.write_raw.ensures.parts

pub returns-clause-records : goal.returns-clause-records
returns-clause-records g c = at_node c.args.self.now c.self.inside.nodes.items c.args.repo c.index_mut.result.now c.write_raw.new.self c.self.view_is c.requires.there c.index_mut.ensures.value _ c.write_raw.ensures.records

pub returns-clause-later : goal.returns-clause-later
returns-clause-later g c = at_node c.args.self.now c.self.inside.nodes.items c.args.repo c.index_mut.result.now c.write_raw.new.self c.self.view_is c.requires.there c.index_mut.ensures.value _ c.write_raw.ensures.later

pub returns-clause-cause : goal.returns-clause-cause
returns-clause-cause g c = at_node c.args.self.now c.self.inside.nodes.items c.args.repo c.index_mut.result.now c.write_raw.new.self c.self.view_is c.requires.there c.index_mut.ensures.value _ c.write_raw.ensures.cause

pub returns-clause-others : goal.returns-clause-others
returns-clause-others g c = others_stay c.args.self.now c.self.inside.nodes.items c.args.repo c.write_raw.new.self c.self.view_is

pub returns-clause-calls : goal.returns-clause-calls
returns-clause-calls g c = at_node c.args.self.now c.self.inside.nodes.items c.args.repo c.index_mut.result.now c.write_raw.new.self c.self.view_is c.requires.there c.index_mut.ensures.value _ c.write_raw.ensures.calls

pub returns-clause-full : goal.returns-clause-full
returns-clause-full g c = at_node c.args.self.now c.self.inside.nodes.items c.args.repo c.index_mut.result.now c.write_raw.new.self c.self.view_is c.requires.there c.index_mut.ensures.value _ c.write_raw.ensures.full

pub returns-clause-unasked : goal.returns-clause-unasked
returns-clause-unasked g c = at_node c.args.self.now c.self.inside.nodes.items c.args.repo c.index_mut.result.now c.write_raw.new.self c.self.view_is c.requires.there c.index_mut.ensures.value _ c.write_raw.ensures.unasked
