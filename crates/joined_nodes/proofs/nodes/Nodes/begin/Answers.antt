-- What the proof of `nodes::Nodes::begin` needs beside the tactics.
use Rattle.joined_nodes.proofs.Staying.{at_node, others_stay, read_at, whole_at}
use Rattle.joined_nodes.proofs.Keeping.{Keeps, begin_keeps, stay_paired}
use Rattle.run_data.specs.declared.entry.EntryKind.TheVariants.{Begin}
use Rattle.joined_nodes.proofs.nodes.Nodes.begin.Goals as goal

pub invariant_of-self : goal.invariant_of-self
invariant_of-self g c =
    let keeps : Keeps c.index_mut.result.now c.begin.new.self = begin_keeps c.begin.result (λ number. Begin number c.args.job) c.index_mut.result.now c.begin.new.self c.begin.ensures.ok c.begin.ensures.err in
    c.nodes_stay_joined.ensures c.self.inside.nodes.items c.args.repo c.index_mut.result.now c.begin.new.self c.self.invariant
    (read_at c.args.self.now c.self.inside.nodes.items c.args.repo c.index_mut.result.now c.self.view_is c.requires.there c.index_mut.ensures.value)
    keeps.setup (stay_paired c.index_mut.result.now c.begin.new.self keeps)

pub begin-requires : goal.begin-requires
begin-requires g c =
    record { may = c.requires.may c.index_mut.result.now (whole_at c.args.self.now c.self.inside.nodes.items c.args.repo c.index_mut.result.now c.self.view_is c.requires.there c.index_mut.ensures.value) }

pub returns-clause-number : goal.returns-clause-number
returns-clause-number g c = at_node c.args.self.now c.self.inside.nodes.items c.args.repo c.index_mut.result.now c.begin.new.self c.self.view_is c.requires.there c.index_mut.ensures.value _ c.begin.ensures.number

pub returns-clause-jobs : goal.returns-clause-jobs
returns-clause-jobs g c = at_node c.args.self.now c.self.inside.nodes.items c.args.repo c.index_mut.result.now c.begin.new.self c.self.view_is c.requires.there c.index_mut.ensures.value _ c.begin.ensures.jobs

pub returns-clause-ok : goal.returns-clause-ok
returns-clause-ok g c = at_node c.args.self.now c.self.inside.nodes.items c.args.repo c.index_mut.result.now c.begin.new.self c.self.view_is c.requires.there c.index_mut.ensures.value _ c.begin.ensures.ok

pub returns-clause-slot : goal.returns-clause-slot
returns-clause-slot g c = at_node c.args.self.now c.self.inside.nodes.items c.args.repo c.index_mut.result.now c.begin.new.self c.self.view_is c.requires.there c.index_mut.ensures.value _ c.begin.ensures.slot

pub returns-clause-free : goal.returns-clause-free
returns-clause-free g c = at_node c.args.self.now c.self.inside.nodes.items c.args.repo c.index_mut.result.now c.begin.new.self c.self.view_is c.requires.there c.index_mut.ensures.value _ c.begin.ensures.free

pub returns-clause-full : goal.returns-clause-full
returns-clause-full g c = at_node c.args.self.now c.self.inside.nodes.items c.args.repo c.index_mut.result.now c.begin.new.self c.self.view_is c.requires.there c.index_mut.ensures.value _ c.begin.ensures.full

pub returns-clause-err : goal.returns-clause-err
returns-clause-err g c = at_node c.args.self.now c.self.inside.nodes.items c.args.repo c.index_mut.result.now c.begin.new.self c.self.view_is c.requires.there c.index_mut.ensures.value _ c.begin.ensures.err

pub returns-clause-others : goal.returns-clause-others
returns-clause-others g c = others_stay c.args.self.now c.self.inside.nodes.items c.args.repo c.begin.new.self c.self.view_is
