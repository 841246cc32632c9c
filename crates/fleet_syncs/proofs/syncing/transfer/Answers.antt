-- What the proof of `syncing::transfer` needs beside the tactics.
use Rattle.std.proofs.Common.{◌<◌, ap, filter, length, subst, sym, ◌∙◌}
use Rattle.driver_model.specs.Syncs.{is_transfer, transfers}
use Rattle.fleet_entries.specs.Stored.{StoreView, store_view}
use Rattle.fleet_entries.specs.Fleets.{FleetView}
use Rattle.fleet_entries.specs.AtDriver.{IsDriven}
use Rattle.fleet_entries.proofs.Ended.{on_ok}
use Rattle.fleet_entries.proofs.Ending.{AtFull}
use Rattle.fleet_entries.proofs.Full.{rest_then, rest_where_same}
use Rattle.fleet_entries.proofs.Starts.{AtStart, always_err, on_err, start_same}
use Rattle.fleet_syncs.proofs.Planned.{HasPlanned, picked_may, planned_ends, planned_goes, still_may}
use Rattle.fleet_syncs.proofs.Wanting.{never_full}
use Rattle.fleet_syncs.proofs.syncing.transfer.Goals as goal

pub carry_out-requires-clause-there : goal.carry_out-requires-clause-there
carry_out-requires-clause-there g c = subst (λ (f : FleetView g.row.K.Denot). c.args.repo < length f.nodes) (sym c.plan_of.ensures.same) c.requires.there

pub carry_out-requires-clause-driven : goal.carry_out-requires-clause-driven
carry_out-requires-clause-driven g c =
    let tells : g.row.K.Denot → StoreView = λ k. store_view (g.K.Keeper.contents k) (g.K.Keeper.parts k) (g.K.Keeper.failing k) (g.K.Keeper.faults k) in
    subst (IsDriven tells) (sym c.plan_of.ensures.same) c.requires.driven

pub carry_out-requires-clause-may : goal.carry_out-requires-clause-may
carry_out-requires-clause-may g c =
    picked_may (length c.plan_of.new.running.nodes) c.args.repo is_transfer _ _ (c.deref.ensures.value ∙ c.keep_transfers.ensures) (still_may c.args.repo c.args.running.now c.plan_of.new.running _ c.plan_of.ensures.same c.in_ok-actions.ensures.may)

pub returns : goal.returns
returns g c =
    let tells : g.row.K.Denot → StoreView = λ k. store_view (g.K.Keeper.contents k) (g.K.Keeper.parts k) (g.K.Keeper.failing k) (g.K.Keeper.faults k) in
    let has : HasPlanned tells c.args.repo is_transfer c.args.running.now c.plan_of.new.running c.deref.result.now = record {
      same = c.plan_of.ensures.same;
      are = λ given d stands. c.deref.ensures.value ∙ (c.keep_transfers.ensures ∙ ap (filter is_transfer) (c.in_ok-actions.ensures.value given d stands));
    } in
    record {
      ok = on_ok c.carry_out.result _ _ c.carry_out.ensures.ok (λ goes. planned_goes tells c.args.repo is_transfer c.args.running.now c.plan_of.new.running c.carry_out.new.running c.deref.result.now has goes);
      full = λ r e. planned_ends tells (AtFull r) c.args.repo is_transfer c.args.running.now c.plan_of.new.running c.carry_out.new.running c.deref.result.now has (c.carry_out.ensures.full r e);
      stopped = on_err c.carry_out.result _ _ c.carry_out.ensures.stopped (λ stops. planned_ends tells AtStart c.args.repo is_transfer c.args.running.now c.plan_of.new.running c.carry_out.new.running c.deref.result.now has stops);
      rest = rest_then c.args.running.now c.plan_of.new.running c.carry_out.new.running (rest_where_same c.args.running.now c.plan_of.new.running (ap (λ (f : FleetView g.row.K.Denot). f.run) c.plan_of.ensures.same)) c.carry_out.ensures.rest;
    }

pub returns-in_err-actions-clause-full : goal.returns-in_err-actions-clause-full
returns-in_err-actions-clause-full g c = λ r e. absurd (never_full c.from_residual.result r c.from_residual.ensures.1 e)

pub returns-in_err-actions-clause-stopped : goal.returns-in_err-actions-clause-stopped
returns-in_err-actions-clause-stopped g c =
    let tells : g.row.K.Denot → StoreView = λ k. store_view (g.K.Keeper.contents k) (g.K.Keeper.parts k) (g.K.Keeper.failing k) (g.K.Keeper.faults k) in
    always_err _ _ (start_same tells (λ given d. transfers given c.args.repo d) c.args.running.now c.plan_of.new.running (λ given d. c.drivers_only_add.ensures.transfers given c.args.repo d) (ap (λ (f : FleetView g.row.K.Denot). f.run) c.plan_of.ensures.same))

pub returns-in_err-actions-clause-rest : goal.returns-in_err-actions-clause-rest
returns-in_err-actions-clause-rest g c = rest_where_same c.args.running.now c.plan_of.new.running (ap (λ (f : FleetView g.row.K.Denot). f.run) c.plan_of.ensures.same)
