-- What the proof of `nodes::Nodes::merge` needs beside the tactics.
use Rattle.std.proofs.Common.{◌≡◌, [], refl, sym, ap, subst, ◌∙◌}
use Rattle.std.proofs.lemmas.Option.{same_Some}
use Rattle.std.proofs.lemmas.Result.{err_from_is_err_and}
use Rattle.branch_bundle.specs.Bundle.{IsBundle}
use Rattle.repo_node.specs.Walks.{StopsAfter, merge_files}
use Rattle.node_past.specs.declared.refused.NodeRefused.TheVariants as refusals
use Rattle.joined_nodes.proofs.Keeping.{Keeps, merge_keeps, stay_paired, walk_keeps}
use Rattle.joined_nodes.proofs.Staying.{at_node, others_stay, read_at, whole_at}
use Rattle.joined_nodes.proofs.nodes.Nodes.merge.Goals as goal

pub returns-in_err-bundle-clause-err : goal.returns-in_err-bundle-clause-err
returns-in_err-bundle-clause-err g c = λ other at n m at_n at_m.
    let p = err_from_is_err_and c.from_residual.result c.from_residual.ensures.1 in
    rw (p.1, p.2) (subst (λ x. StopsAfter (merge_files n) other.branch refusals.NoMemory x) (same_Some n m (sym at_n ∙ at_m)) (record { done = []; left = other.branch; whole = refl; keeper = n.keeper; refused = refl }))

pub invariant_of-self : goal.invariant_of-self
invariant_of-self g c =
    let from = c.index.result.now in
    let n = c.index_mut.result.now in
    let m = c.merge_bundle.new.self in
    let is : IsBundle c.deref.result.now from.branch = subst (λ t. IsBundle t from.branch) (sym c.deref.ensures.value) c.in_ok-bundle.ensures in
    let keeps : Keeps n m = walk_keeps c.merge_bundle.result n m (merge_files n) from.branch (merge_keeps n) (c.merge_bundle.ensures.ok from.branch is) (c.merge_bundle.ensures.err from.branch is) in
    c.nodes_stay_joined.ensures c.self.inside.nodes.items c.args.repo n m c.self.invariant
    (read_at c.args.self.now c.self.inside.nodes.items c.args.repo n c.self.view_is c.requires.there c.index_mut.ensures.value)
    keeps.setup (stay_paired n m keeps)

pub returns-clause-ok : goal.returns-clause-ok
returns-clause-ok g c = λ other at.
    let from = c.index.result.now in
    let same : from ≡ other = same_Some from other (sym (whole_at c.args.self.now c.self.inside.nodes.items c.args.from from c.self.view_is c.requires.other c.index.ensures) ∙ at) in
    let is : IsBundle c.deref.result.now other.branch = subst (λ o. IsBundle c.deref.result.now o.branch) same (subst (λ t. IsBundle t from.branch) (sym c.deref.ensures.value) c.in_ok-bundle.ensures) in
    at_node c.args.self.now c.self.inside.nodes.items c.args.repo c.index_mut.result.now c.merge_bundle.new.self c.self.view_is c.requires.there c.index_mut.ensures.value _ (c.merge_bundle.ensures.ok other.branch is)

pub returns-clause-err : goal.returns-clause-err
returns-clause-err g c = λ other at.
    let from = c.index.result.now in
    let same : from ≡ other = same_Some from other (sym (whole_at c.args.self.now c.self.inside.nodes.items c.args.from from c.self.view_is c.requires.other c.index.ensures) ∙ at) in
    let is : IsBundle c.deref.result.now other.branch = subst (λ o. IsBundle c.deref.result.now o.branch) same (subst (λ t. IsBundle t from.branch) (sym c.deref.ensures.value) c.in_ok-bundle.ensures) in
    at_node c.args.self.now c.self.inside.nodes.items c.args.repo c.index_mut.result.now c.merge_bundle.new.self c.self.view_is c.requires.there c.index_mut.ensures.value _ (c.merge_bundle.ensures.err other.branch is)

pub returns-clause-contents : goal.returns-clause-contents
returns-clause-contents g c = at_node c.args.self.now c.self.inside.nodes.items c.args.repo c.index_mut.result.now c.merge_bundle.new.self c.self.view_is c.requires.there c.index_mut.ensures.value _ c.merge_bundle.ensures.contents

pub returns-clause-parts : goal.returns-clause-parts
returns-clause-parts g c = at_node c.args.self.now c.self.inside.nodes.items c.args.repo c.index_mut.result.now c.merge_bundle.new.self c.self.view_is c.requires.there c.index_mut.ensures.value _ c.merge_bundle.ensures.parts

pub returns-clause-records : goal.returns-clause-records
returns-clause-records g c = at_node c.args.self.now c.self.inside.nodes.items c.args.repo c.index_mut.result.now c.merge_bundle.new.self c.self.view_is c.requires.there c.index_mut.ensures.value _ c.merge_bundle.ensures.records

pub returns-clause-later : goal.returns-clause-later
returns-clause-later g c = at_node c.args.self.now c.self.inside.nodes.items c.args.repo c.index_mut.result.now c.merge_bundle.new.self c.self.view_is c.requires.there c.index_mut.ensures.value _ c.merge_bundle.ensures.later

pub returns-clause-cause : goal.returns-clause-cause
returns-clause-cause g c = at_node c.args.self.now c.self.inside.nodes.items c.args.repo c.index_mut.result.now c.merge_bundle.new.self c.self.view_is c.requires.there c.index_mut.ensures.value _ c.merge_bundle.ensures.cause

pub returns-clause-others : goal.returns-clause-others
returns-clause-others g c = others_stay c.args.self.now c.self.inside.nodes.items c.args.repo c.merge_bundle.new.self c.self.view_is

pub returns-clause-calls : goal.returns-clause-calls
returns-clause-calls g c = λ other at.
    let from = c.index.result.now in
    let same : from ≡ other = same_Some from other (sym (whole_at c.args.self.now c.self.inside.nodes.items c.args.from from c.self.view_is c.requires.other c.index.ensures) ∙ at) in
    let is : IsBundle c.deref.result.now other.branch = subst (λ o. IsBundle c.deref.result.now o.branch) same (subst (λ t. IsBundle t from.branch) (sym c.deref.ensures.value) c.in_ok-bundle.ensures) in
    at_node c.args.self.now c.self.inside.nodes.items c.args.repo c.index_mut.result.now c.merge_bundle.new.self c.self.view_is c.requires.there c.index_mut.ensures.value _ (c.merge_bundle.ensures.calls other.branch is)

pub returns-clause-alone : goal.returns-clause-alone
returns-clause-alone g c = at_node c.args.self.now c.self.inside.nodes.items c.args.repo c.index_mut.result.now c.merge_bundle.new.self c.self.view_is c.requires.there c.index_mut.ensures.value _ c.merge_bundle.ensures.alone

pub returns-in_err-bundle-clause-calls : goal.returns-in_err-bundle-clause-calls
returns-in_err-bundle-clause-calls g c = λ other at n m at_n at_m.
    let p = err_from_is_err_and c.from_residual.result c.from_residual.ensures.1 in
    rw (p.1, p.2) (ap (λ x. g.K.Keeper.failing x.keeper) (sym (same_Some n m (sym at_n ∙ at_m))))

pub returns-clause-full : goal.returns-clause-full
returns-clause-full g c = λ other at.
    let from = c.index.result.now in
    let same : from ≡ other = same_Some from other (sym (whole_at c.args.self.now c.self.inside.nodes.items c.args.from from c.self.view_is c.requires.other c.index.ensures) ∙ at) in
    let is : IsBundle c.deref.result.now other.branch = subst (λ o. IsBundle c.deref.result.now o.branch) same (subst (λ t. IsBundle t from.branch) (sym c.deref.ensures.value) c.in_ok-bundle.ensures) in
    at_node c.args.self.now c.self.inside.nodes.items c.args.repo c.index_mut.result.now c.merge_bundle.new.self c.self.view_is c.requires.there c.index_mut.ensures.value _ (c.merge_bundle.ensures.full other.branch is)
