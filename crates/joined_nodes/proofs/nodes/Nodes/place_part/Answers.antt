-- What the proof of `nodes::Nodes::place_part` needs beside the tactics.
use Rattle.joined_nodes.proofs.Staying.{at_node, others_stay, read_at}
use Rattle.joined_nodes.proofs.Keeping.{Keeps, part_keeps, stay_paired}
use Rattle.joined_nodes.proofs.nodes.Nodes.place_part.Goals as goal

pub invariant_of-self : goal.invariant_of-self
invariant_of-self g c =
    let keeps : Keeps c.index_mut.result.now c.place_part.new.self = part_keeps c.place_part.result c.index_mut.result.now c.place_part.new.self c.place_part.ensures.ok c.place_part.ensures.err in
    c.nodes_stay_joined.ensures c.self.inside.nodes.items c.args.repo c.index_mut.result.now c.place_part.new.self c.self.invariant
    (read_at c.args.self.now c.self.inside.nodes.items c.args.repo c.index_mut.result.now c.self.view_is c.requires.there c.index_mut.ensures.value)
    keeps.setup (stay_paired c.index_mut.result.now c.place_part.new.self keeps)

pub returns-clause-ok : goal.returns-clause-ok
returns-clause-ok g c = at_node c.args.self.now c.self.inside.nodes.items c.args.repo c.index_mut.result.now c.place_part.new.self c.self.view_is c.requires.there c.index_mut.ensures.value _ c.place_part.ensures.ok

pub returns-clause-part : goal.returns-clause-part
returns-clause-part g c = at_node c.args.self.now c.self.inside.nodes.items c.args.repo c.index_mut.result.now c.place_part.new.self c.self.view_is c.requires.there c.index_mut.ensures.value _ c.place_part.ensures.part

pub returns-clause-err : goal.returns-clause-err
returns-clause-err g c = at_node c.args.self.now c.self.inside.nodes.items c.args.repo c.index_mut.result.now c.place_part.new.self c.self.view_is c.requires.there c.index_mut.ensures.value _ c.place_part.ensures.err

pub returns-clause-contents : goal.returns-clause-contents
returns-clause-contents g c = at_node c.args.self.now c.self.inside.nodes.items c.args.repo c.index_mut.result.now c.place_part.new.self c.self.view_is c.requires.there c.index_mut.ensures.value _ c.place_part.ensures.contents

pub returns-clause-records : goal.returns-clause-records
returns-clause-records g c = at_node c.args.self.now c.self.inside.nodes.items c.args.repo c.index_mut.result.now c.place_part.new.self c.self.view_is c.requires.there c.index_mut.ensures.value _ c.place_part.ensures.records

pub returns-clause-later : goal.returns-clause-later
returns-clause-later g c = at_node c.args.self.now c.self.inside.nodes.items c.args.repo c.index_mut.result.now c.place_part.new.self c.self.view_is c.requires.there c.index_mut.ensures.value _ c.place_part.ensures.later

pub returns-clause-cause : goal.returns-clause-cause
returns-clause-cause g c = at_node c.args.self.now c.self.inside.nodes.items c.args.repo c.index_mut.result.now c.place_part.new.self c.self.view_is c.requires.there c.index_mut.ensures.value _ c.place_part.ensures.cause

pub returns-clause-others : goal.returns-clause-others
returns-clause-others g c = others_stay c.args.self.now c.self.inside.nodes.items c.args.repo c.place_part.new.self c.self.view_is

pub returns-clause-done : goal.returns-clause-done
returns-clause-done g c = at_node c.args.self.now c.self.inside.nodes.items c.args.repo c.index_mut.result.now c.place_part.new.self c.self.view_is c.requires.there c.index_mut.ensures.value _ c.place_part.ensures.done

pub returns-clause-stops : goal.returns-clause-stops
returns-clause-stops g c = at_node c.args.self.now c.self.inside.nodes.items c.args.repo c.index_mut.result.now c.place_part.new.self c.self.view_is c.requires.there c.index_mut.ensures.value _ c.place_part.ensures.stops

pub returns-clause-room : goal.returns-clause-room
returns-clause-room g c = at_node c.args.self.now c.self.inside.nodes.items c.args.repo c.index_mut.result.now c.place_part.new.self c.self.view_is c.requires.there c.index_mut.ensures.value _ c.place_part.ensures.room
