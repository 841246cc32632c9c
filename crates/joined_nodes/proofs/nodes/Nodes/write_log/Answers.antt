-- What the proof of `nodes::Nodes::write_log` needs beside the tactics.
use Rattle.std.proofs.Common.{◌∷◌, []}
use Rattle.joined_nodes.proofs.Staying.{at_node, others_stay, read_at, whole_at}
use Rattle.joined_nodes.proofs.Keeping.{Keeps, stay_paired, write_keeps}
use Rattle.std.specs.Option.{option_copied}
use Rattle.log_lines.specs.LineText.{line_text}
use Rattle.repo_node.specs.Logs.{log_of, stamped_by}
use Rattle.joined_nodes.proofs.nodes.Nodes.write_log.Goals as goal

pub invariant_of-self : goal.invariant_of-self
invariant_of-self g c =
    let keeps : Keeps c.index_mut.result.now c.write_log.new.self = write_keeps c.write_log.result c.index_mut.result.now c.write_log.new.self (log_of c.args.kind (option_copied c.args.key)) (line_text c.args.kind (stamped_by c.index_mut.result.now c.args.kind (option_copied c.args.key) c.args.entry.now) ∷ []) c.write_log.ensures.ok c.write_log.ensures.err in
    c.nodes_stay_joined.ensures c.self.inside.nodes.items c.args.repo c.index_mut.result.now c.write_log.new.self c.self.invariant
    (read_at c.args.self.now c.self.inside.nodes.items c.args.repo c.index_mut.result.now c.self.view_is c.requires.there c.index_mut.ensures.value)
    keeps.setup (stay_paired c.index_mut.result.now c.write_log.new.self keeps)

pub write_log-requires-clause-line : goal.write_log-requires-clause-line
write_log-requires-clause-line g c =
    c.requires.line c.index_mut.result.now (whole_at c.args.self.now c.self.inside.nodes.items c.args.repo c.index_mut.result.now c.self.view_is c.requires.there c.index_mut.ensures.value)

pub returns-clause-ok : goal.returns-clause-ok
returns-clause-ok g c = at_node c.args.self.now c.self.inside.nodes.items c.args.repo c.index_mut.result.now c.write_log.new.self c.self.view_is c.requires.there c.index_mut.ensures.value _ c.write_log.ensures.ok

pub returns-clause-err : goal.returns-clause-err
returns-clause-err g c = at_node c.args.self.now c.self.inside.nodes.items c.args.repo c.index_mut.result.now c.write_log.new.self c.self.view_is c.requires.there c.index_mut.ensures.value _ c.write_log.ensures.err

pub returns-clause-contents : goal.returns-clause-contents
returns-clause-contents g c = at_node c.args.self.now c.self.inside.nodes.items c.args.repo c.index_mut.result.now c.write_log.new.self c.self.view_is c.requires.there c.index_mut.ensures.value _ c.write_log.ensures.contents

pub returns-clause-parts : goal.returns-clause-parts
returns-clause-parts g c = at_node c.args.self.now c.self.inside.nodes.items c.args.repo c.index_mut.result.now c.write_log.new.self c.self.view_is c.requires.there c.index_mut.ensures.value _ c.write_log.ensures.parts

pub returns-clause-records : goal.returns-clause-records
returns-clause-records g c = at_node c.args.self.now c.self.inside.nodes.items c.args.repo c.index_mut.result.now c.write_log.new.self c.self.view_is c.requires.there c.index_mut.ensures.value _ c.write_log.ensures.records

pub returns-clause-later : goal.returns-clause-later
returns-clause-later g c = at_node c.args.self.now c.self.inside.nodes.items c.args.repo c.index_mut.result.now c.write_log.new.self c.self.view_is c.requires.there c.index_mut.ensures.value _ c.write_log.ensures.later

pub returns-clause-cause : goal.returns-clause-cause
returns-clause-cause g c = at_node c.args.self.now c.self.inside.nodes.items c.args.repo c.index_mut.result.now c.write_log.new.self c.self.view_is c.requires.there c.index_mut.ensures.value _ c.write_log.ensures.cause

pub returns-clause-others : goal.returns-clause-others
returns-clause-others g c = others_stay c.args.self.now c.self.inside.nodes.items c.args.repo c.write_log.new.self c.self.view_is

pub returns-clause-calls : goal.returns-clause-calls
returns-clause-calls g c = at_node c.args.self.now c.self.inside.nodes.items c.args.repo c.index_mut.result.now c.write_log.new.self c.self.view_is c.requires.there c.index_mut.ensures.value _ c.write_log.ensures.calls

pub returns-clause-full : goal.returns-clause-full
returns-clause-full g c = at_node c.args.self.now c.self.inside.nodes.items c.args.repo c.index_mut.result.now c.write_log.new.self c.self.view_is c.requires.there c.index_mut.ensures.value _ c.write_log.ensures.full

pub returns-clause-unasked : goal.returns-clause-unasked
returns-clause-unasked g c = at_node c.args.self.now c.self.inside.nodes.items c.args.repo c.index_mut.result.now c.write_log.new.self c.self.view_is c.requires.there c.index_mut.ensures.value _ c.write_log.ensures.unasked
