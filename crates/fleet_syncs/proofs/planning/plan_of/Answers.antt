-- What the proof of `planning::plan_of` needs beside the tactics.
use Rattle.std.proofs.Common.{◌≡◌, ◌<◌, ℕ, ap, length, map, subst, sym, ◌∙◌}
use Rattle.std.proofs.lemmas.Result.{IfOk-weaker}
use Rattle.annex_base.specs.Lists.{Each}
use Rattle.run_data.specs.declared.run.RepoView.{RepoView}
use Rattle.union_merge.specs.Branch.{Files, lines_at}
use Rattle.trust_groups.specs.Settings.{settings}
use Rattle.driver_model.specs.Driver.{Driver, DriverInput}
use Rattle.driver_model.specs.Syncs.{plan_at}
use Rattle.fleet_entries.specs.Stored.{StoreView, store_view}
use Rattle.fleet_entries.specs.Fleets.{FleetView}
use Rattle.fleet_entries.specs.AtDriver.{IsAtDriver, IsDriven}
use Rattle.fleet_syncs.proofs.Planned.{MayCarry, ids_count, ids_few, may_begin_all, plan_is, tree_taken}
use Rattle.fleet_syncs.proofs.planning.plan_of.Goals as goal

pub par_plan-requires-clause-here : goal.par_plan-requires-clause-here
par_plan-requires-clause-here g c = λ κs lives.
    let tells : g.row.K.Denot → StoreView = λ k. store_view (g.K.Keeper.contents k) (g.K.Keeper.parts k) (g.K.Keeper.failing k) (g.K.Keeper.faults k) in
    let inside : FleetView g.row.K.Denot = record { nodes = c.running.inside.nodes; run = c.running.inside.run } in
    let driven = subst (IsDriven tells) (sym c.running.view_is) c.requires.driven in
    let are = c.deref.ensures.value ∙ (c.in_ok-ids.ensures ∙ ap (map (λ (repo : RepoView). repo.id)) c.as_slice.ensures) in
    subst (λ (n : ℕ). c.args.repo < n) (sym (ids_count tells inside c.deref.result.now driven are)) (subst (λ (f : FleetView g.row.K.Denot). c.args.repo < length f.nodes) (sym c.running.view_is) c.requires.there)

pub par_plan-requires-clause-few : goal.par_plan-requires-clause-few
par_plan-requires-clause-few g c = λ κs lives.
    let tells : g.row.K.Denot → StoreView = λ k. store_view (g.K.Keeper.contents k) (g.K.Keeper.parts k) (g.K.Keeper.failing k) (g.K.Keeper.faults k) in
    let inside : FleetView g.row.K.Denot = record { nodes = c.running.inside.nodes; run = c.running.inside.run } in
    let driven = subst (IsDriven tells) (sym c.running.view_is) c.requires.driven in
    let are = c.deref.ensures.value ∙ (c.in_ok-ids.ensures ∙ ap (map (λ (repo : RepoView). repo.id)) c.as_slice.ensures) in
    ids_few tells inside c.deref.result.now driven are

pub returns-clause-value : goal.returns-clause-value
returns-clause-value g c =
    let tells : g.row.K.Denot → StoreView = λ k. store_view (g.K.Keeper.contents k) (g.K.Keeper.parts k) (g.K.Keeper.failing k) (g.K.Keeper.faults k) in
    let inside : FleetView g.row.K.Denot = record { nodes = c.running.inside.nodes; run = c.running.inside.run } in
    let driven = subst (IsDriven tells) (sym c.running.view_is) c.requires.driven in
    let are = c.deref.ensures.value ∙ (c.in_ok-ids.ensures ∙ ap (map (λ (repo : RepoView). repo.id)) c.as_slice.ensures) in
    IfOk-weaker c.par_plan.result _ _ (λ actions is. subst (λ (f : FleetView g.row.K.Denot). (given : DriverInput) (d : Driver) → IsAtDriver tells given d f → actions.items ≡ plan_at given c.args.repo d) c.running.view_is
    (plan_is tells c.args.repo inside c.node.result.now _ c.tree.result.now c.deref.result.now actions.items c.kept_lines_read_as_all.ensures c.node.ensures
    (c.in_ok-settings.ensures.exact ∙ ap (λ (files : Files). settings (lines_at files)) c.branch-branch.ensures) (tree_taken c.running.inside.run c.running.inside.index c.follow.new.self c.as_slice-2.result.now c.tree.result.now c.trees_have_all_marks_before.ensures.all c.running.invariant c.as_slice-2.ensures c.in_ok-follow.ensures.all c.tree.ensures) are is)) c.par_plan.ensures

pub returns-clause-may : goal.returns-clause-may
returns-clause-may g c =
    let tells : g.row.K.Denot → StoreView = λ k. store_view (g.K.Keeper.contents k) (g.K.Keeper.parts k) (g.K.Keeper.failing k) (g.K.Keeper.faults k) in
    let inside : FleetView g.row.K.Denot = record { nodes = c.running.inside.nodes; run = c.running.inside.run } in
    let driven = subst (IsDriven tells) (sym c.running.view_is) c.requires.driven in
    let are = c.deref.ensures.value ∙ (c.in_ok-ids.ensures ∙ ap (map (λ (repo : RepoView). repo.id)) c.as_slice.ensures) in
    IfOk-weaker c.par_plan.result _ _ (λ actions is. subst (λ (f : FleetView g.row.K.Denot). Each (MayCarry (length f.nodes) c.args.repo) actions.items) c.running.view_is
    (may_begin_all tells c.args.repo inside _ c.tree.result.now c.deref.result.now actions.items driven are is)) c.par_plan.ensures
