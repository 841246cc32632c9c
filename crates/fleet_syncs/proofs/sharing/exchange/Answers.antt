-- What the proof of `sharing::exchange` needs beside the tactics.
use Rattle.std.proofs.Common.{ℕ, ◌<◌, subst, sym}
use Rattle.fleet_entries.specs.Stored.{StoreView, store_view}
use Rattle.driver_model.specs.Syncs.{each_merges, merges_each, numbers_but}
use Rattle.fleet_entries.specs.AtDriver.{most_lines}
use Rattle.fleet_entries.proofs.Driving.{driven_on, same_count}
use Rattle.fleet_entries.proofs.Few.{merges_each_few}
use Rattle.fleet_entries.proofs.Ended.{on_ok}
use Rattle.fleet_entries.proofs.Ending.{AtFull, ends_early, ends_late, goes_twice, later_full}
use Rattle.fleet_entries.proofs.Full.{rest_then, same_err}
use Rattle.fleet_entries.proofs.Starts.{AtStart, always_err, later_start, on_err}
use Rattle.fleet_syncs.proofs.sharing.exchange.Goals as goal

pub merge_into_each-requires-clause-there : goal.merge_into_each-requires-clause-there
merge_into_each-requires-clause-there g c =
    let tells : g.row.K.Denot → StoreView = λ k. store_view (g.K.Keeper.contents k) (g.K.Keeper.parts k) (g.K.Keeper.failing k) (g.K.Keeper.faults k) in
    subst (λ (n : ℕ). c.args.repo < n) (sym (same_count tells (λ given d. merges_each c.args.repo (numbers_but given c.args.repo) d) c.args.running.now c.merge_each.new.running c.requires.driven c.in_ok-merge_each.ensures.ok)) c.requires.there

pub merge_into_each-requires-clause-driven : goal.merge_into_each-requires-clause-driven
merge_into_each-requires-clause-driven g c =
    let tells : g.row.K.Denot → StoreView = λ k. store_view (g.K.Keeper.contents k) (g.K.Keeper.parts k) (g.K.Keeper.failing k) (g.K.Keeper.faults k) in
    driven_on tells most_lines most_lines (λ given d. merges_each c.args.repo (numbers_but given c.args.repo) d) c.args.running.now c.merge_each.new.running (λ given d. merges_each_few most_lines c.args.repo (numbers_but given c.args.repo) d) c.requires.driven c.in_ok-merge_each.ensures.ok

pub returns : goal.returns
returns g c =
    let tells : g.row.K.Denot → StoreView = λ k. store_view (g.K.Keeper.contents k) (g.K.Keeper.parts k) (g.K.Keeper.failing k) (g.K.Keeper.faults k) in
    record {
      ok = on_ok c.merge_into_each.result _ _ c.merge_into_each.ensures.ok (λ goes. goes_twice tells (λ given d. merges_each c.args.repo (numbers_but given c.args.repo) d) (λ given d. each_merges c.args.repo (numbers_but given c.args.repo) d) c.args.running.now c.merge_each.new.running c.merge_into_each.new.running c.in_ok-merge_each.ensures.ok goes);
      full = λ r e. ends_late tells (AtFull r) (λ given d. merges_each c.args.repo (numbers_but given c.args.repo) d) (λ given d. each_merges c.args.repo (numbers_but given c.args.repo) d) c.args.running.now c.merge_each.new.running c.merge_into_each.new.running c.in_ok-merge_each.ensures.ok (c.merge_into_each.ensures.full r e);
      stopped = on_err c.merge_into_each.result _ _ c.merge_into_each.ensures.stopped (λ stops. ends_late tells AtStart (λ given d. merges_each c.args.repo (numbers_but given c.args.repo) d) (λ given d. each_merges c.args.repo (numbers_but given c.args.repo) d) c.args.running.now c.merge_each.new.running c.merge_into_each.new.running c.in_ok-merge_each.ensures.ok stops);
      rest = rest_then c.args.running.now c.merge_each.new.running c.merge_into_each.new.running c.merge_each.ensures.rest c.merge_into_each.ensures.rest;
    }

pub returns-in_err-merge_each-clause-full : goal.returns-in_err-merge_each-clause-full
returns-in_err-merge_each-clause-full g c =
    let tells : g.row.K.Denot → StoreView = λ k. store_view (g.K.Keeper.contents k) (g.K.Keeper.parts k) (g.K.Keeper.failing k) (g.K.Keeper.faults k) in
    λ r e. ends_early tells (AtFull r) (λ given d. merges_each c.args.repo (numbers_but given c.args.repo) d) (λ given d. each_merges c.args.repo (numbers_but given c.args.repo) d) c.args.running.now c.merge_each.new.running (later_full c.runs_are_cut_where_histories_are_full.ensures.later r) (λ given d. c.drivers_only_add.ensures.each_merges c.args.repo (numbers_but given c.args.repo) d) (c.merge_each.ensures.full r (same_err c.merge_each.result c.from_residual.result c.in_err-merge_each.field-0.0 _ c.in_err-merge_each.was c.from_residual.ensures.1 e))

pub returns-in_err-merge_each-clause-stopped : goal.returns-in_err-merge_each-clause-stopped
returns-in_err-merge_each-clause-stopped g c =
    let tells : g.row.K.Denot → StoreView = λ k. store_view (g.K.Keeper.contents k) (g.K.Keeper.parts k) (g.K.Keeper.failing k) (g.K.Keeper.faults k) in
    always_err _ _ (ends_early tells AtStart (λ given d. merges_each c.args.repo (numbers_but given c.args.repo) d) (λ given d. each_merges c.args.repo (numbers_but given c.args.repo) d) c.args.running.now c.merge_each.new.running later_start (λ given d. c.drivers_only_add.ensures.each_merges c.args.repo (numbers_but given c.args.repo) d) c.in_err-merge_each.ensures.stopped)

pub returns-in_err-merge_each-clause-rest : goal.returns-in_err-merge_each-clause-rest
returns-in_err-merge_each-clause-rest g c = c.merge_each.ensures.rest
