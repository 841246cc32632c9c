-- What the proof of `nodes::Nodes::merge_bundle` needs beside the tactics.
use Rattle.std.proofs.Common.{inl, inr, slice_set}
use Rattle.repo_node.specs.Walks.{merge_files}
use Rattle.joined_nodes.specs.Joined.{AreNodes}
use Rattle.joined_nodes.proofs.Bundles.{nodes_stable, told}
use Rattle.joined_nodes.proofs.Keeping.{Keeps, keeps_as, kept, merge_keeps, stay_paired, walk_keeps}
use Rattle.joined_nodes.proofs.Staying.{at_node, others_stay, read_at}
use Rattle.joined_nodes.proofs.nodes.Nodes.merge_bundle.Goals as goal

pub invariant_of-self : goal.invariant_of-self
invariant_of-self g c =
    let n = c.index_mut.result.now in
    let m = c.merge_bundle.new.self in
    let so : Keeps n m → AreNodes (slice_set c.self.inside.nodes.items c.args.repo m) = λ keeps.
    c.nodes_stay_joined.ensures c.self.inside.nodes.items c.args.repo n m c.self.invariant
    (read_at c.args.self.now c.self.inside.nodes.items c.args.repo n c.self.view_is c.requires.there c.index_mut.ensures.value)
    keeps.setup (stay_paired n m keeps) in
    nodes_stable (slice_set c.self.inside.nodes.items c.args.repo m) (λ no. told c.bundles_are_exact.ensures.bundle c.args.bytes.now (λ h. elim h [
      | inl b ↦ no (so (walk_keeps c.merge_bundle.result n m (merge_files n) b.0 (merge_keeps n) (c.merge_bundle.ensures.ok b.0 b.1) (c.merge_bundle.ensures.err b.0 b.1)))
      | inr w ↦ no (so (keeps_as n n m (kept n) (c.merge_bundle.ensures.unread w.0 w.1)))
    ]))

pub returns-clause-ok : goal.returns-clause-ok
returns-clause-ok g c = λ files is. at_node c.args.self.now c.self.inside.nodes.items c.args.repo c.index_mut.result.now c.merge_bundle.new.self c.self.view_is c.requires.there c.index_mut.ensures.value _ (c.merge_bundle.ensures.ok files is)

pub returns-clause-err : goal.returns-clause-err
returns-clause-err g c = λ files is. at_node c.args.self.now c.self.inside.nodes.items c.args.repo c.index_mut.result.now c.merge_bundle.new.self c.self.view_is c.requires.there c.index_mut.ensures.value _ (c.merge_bundle.ensures.err files is)

pub returns-clause-unread : goal.returns-clause-unread
returns-clause-unread g c = λ at wrong. at_node c.args.self.now c.self.inside.nodes.items c.args.repo c.index_mut.result.now c.merge_bundle.new.self c.self.view_is c.requires.there c.index_mut.ensures.value _ (c.merge_bundle.ensures.unread at wrong)

pub returns-clause-contents : goal.returns-clause-contents
returns-clause-contents g c = at_node c.args.self.now c.self.inside.nodes.items c.args.repo c.index_mut.result.now c.merge_bundle.new.self c.self.view_is c.requires.there c.index_mut.ensures.value _ c.merge_bundle.ensures.contents

pub returns-clause-parts : goal.returns-clause-parts
returns-clause-parts g c = at_node c.args.self.now c.self.inside.nodes.items c.args.repo c.index_mut.result.now c.merge_bundle.new.self c.self.view_is c.requires.there c.index_mut.ensures.value _ c.merge_bundle.ensures.parts

pub returns-clause-records : goal.returns-clause-records
returns-clause-records g c = at_node c.args.self.now c.self.inside.nodes.items c.args.repo c.index_mut.result.now c.merge_bundle.new.self c.self.view_is c.requires.there c.index_mut.ensures.value _ c.merge_bundle.ensures.records

pub returns-clause-later : goal.returns-clause-later
returns-clause-later g c = at_node c.args.self.now c.self.inside.nodes.items c.args.repo c.index_mut.result.now c.merge_bundle.new.self c.self.view_is c.requires.there c.index_mut.ensures.value _ c.merge_bundle.ensures.later

pub returns-clause-cause : goal.returns-clause-cause
returns-clause-cause g c = at_node c.args.self.now c.self.inside.nodes.items c.args.repo c.index_mut.result.now c.merge_bundle.new.self c.self.view_is c.requires.there c.index_mut.ensures.value _ c.merge_bundle.ensures.cause

pub returns-clause-others : goal.returns-clause-others
returns-clause-others g c = others_stay c.args.self.now c.self.inside.nodes.items c.args.repo c.merge_bundle.new.self c.self.view_is

pub returns-clause-calls : goal.returns-clause-calls
returns-clause-calls g c = λ files is. at_node c.args.self.now c.self.inside.nodes.items c.args.repo c.index_mut.result.now c.merge_bundle.new.self c.self.view_is c.requires.there c.index_mut.ensures.value _ (c.merge_bundle.ensures.calls files is)

pub returns-clause-left : goal.returns-clause-left
returns-clause-left g c = at_node c.args.self.now c.self.inside.nodes.items c.args.repo c.index_mut.result.now c.merge_bundle.new.self c.self.view_is c.requires.there c.index_mut.ensures.value _ c.merge_bundle.ensures.left

pub returns-clause-alone : goal.returns-clause-alone
returns-clause-alone g c = at_node c.args.self.now c.self.inside.nodes.items c.args.repo c.index_mut.result.now c.merge_bundle.new.self c.self.view_is c.requires.there c.index_mut.ensures.value _ c.merge_bundle.ensures.alone

pub returns-clause-full : goal.returns-clause-full
returns-clause-full g c = λ files is. at_node c.args.self.now c.self.inside.nodes.items c.args.repo c.index_mut.result.now c.merge_bundle.new.self c.self.view_is c.requires.there c.index_mut.ensures.value _ (c.merge_bundle.ensures.full files is)
