-- What the proof of `syncing::drop_and_share` needs beside the tactics.
use Rattle.std.proofs.Common.{ℕ, ◌<◌, subst, sym}
use Rattle.fleet_entries.specs.Stored.{StoreView, store_view}
use Rattle.driver_model.specs.Syncs.{drops_spared, shares_logs}
use Rattle.fleet_entries.specs.AtDriver.{most_lines}
use Rattle.fleet_entries.proofs.Driving.{driven_on, same_count}
use Rattle.fleet_entries.proofs.Few.{drops_few}
use Rattle.fleet_entries.proofs.Ended.{on_ok}
use Rattle.fleet_entries.proofs.Ending.{AtFull, ends_early, ends_late, goes_twice, later_full}
use Rattle.fleet_entries.proofs.Full.{rest_then, same_err}
use Rattle.fleet_entries.proofs.Starts.{AtStart, always_err, later_start, on_err}
use Rattle.fleet_syncs.proofs.syncing.drop_and_share.Goals as goal

pub share_logs-requires-clause-there : goal.share_logs-requires-clause-there
share_logs-requires-clause-there g c =
    let tells : g.row.K.Denot → StoreView = λ k. store_view (g.K.Keeper.contents k) (g.K.Keeper.parts k) (g.K.Keeper.failing k) (g.K.Keeper.faults k) in
    subst (λ (n : ℕ). c.args.repo < n) (sym (same_count tells (λ given d. drops_spared given c.args.repo d) c.args.running.now c.drop_spared.new.running c.requires.driven c.in_ok-drop_spared.ensures.ok)) c.requires.there

pub share_logs-requires-clause-driven : goal.share_logs-requires-clause-driven
share_logs-requires-clause-driven g c =
    let tells : g.row.K.Denot → StoreView = λ k. store_view (g.K.Keeper.contents k) (g.K.Keeper.parts k) (g.K.Keeper.failing k) (g.K.Keeper.faults k) in
    driven_on tells most_lines most_lines (λ given d. drops_spared given c.args.repo d) c.args.running.now c.drop_spared.new.running (λ given d. drops_few most_lines given c.args.repo d) c.requires.driven c.in_ok-drop_spared.ensures.ok

pub returns : goal.returns
returns g c =
    let tells : g.row.K.Denot → StoreView = λ k. store_view (g.K.Keeper.contents k) (g.K.Keeper.parts k) (g.K.Keeper.failing k) (g.K.Keeper.faults k) in
    record {
      ok = on_ok c.share_logs.result _ _ c.share_logs.ensures.ok (λ goes. goes_twice tells (λ given d. drops_spared given c.args.repo d) (λ given d. shares_logs given c.args.repo d) c.args.running.now c.drop_spared.new.running c.share_logs.new.running c.in_ok-drop_spared.ensures.ok goes);
      full = λ r e. ends_late tells (AtFull r) (λ given d. drops_spared given c.args.repo d) (λ given d. shares_logs given c.args.repo d) c.args.running.now c.drop_spared.new.running c.share_logs.new.running c.in_ok-drop_spared.ensures.ok (c.share_logs.ensures.full r e);
      stopped = on_err c.share_logs.result _ _ c.share_logs.ensures.stopped (λ stops. ends_late tells AtStart (λ given d. drops_spared given c.args.repo d) (λ given d. shares_logs given c.args.repo d) c.args.running.now c.drop_spared.new.running c.share_logs.new.running c.in_ok-drop_spared.ensures.ok stops);
      rest = rest_then c.args.running.now c.drop_spared.new.running c.share_logs.new.running c.drop_spared.ensures.rest c.share_logs.ensures.rest;
    }

pub returns-in_err-drop_spared-clause-full : goal.returns-in_err-drop_spared-clause-full
returns-in_err-drop_spared-clause-full g c =
    let tells : g.row.K.Denot → StoreView = λ k. store_view (g.K.Keeper.contents k) (g.K.Keeper.parts k) (g.K.Keeper.failing k) (g.K.Keeper.faults k) in
    λ r e. ends_early tells (AtFull r) (λ given d. drops_spared given c.args.repo d) (λ given d. shares_logs given c.args.repo d) c.args.running.now c.drop_spared.new.running (later_full c.runs_are_cut_where_histories_are_full.ensures.later r) (λ given d. c.drivers_only_add.ensures.shares given c.args.repo d) (c.drop_spared.ensures.full r (same_err c.drop_spared.result c.from_residual.result c.in_err-drop_spared.field-0.0 _ c.in_err-drop_spared.was c.from_residual.ensures.1 e))

pub returns-in_err-drop_spared-clause-stopped : goal.returns-in_err-drop_spared-clause-stopped
returns-in_err-drop_spared-clause-stopped g c =
    let tells : g.row.K.Denot → StoreView = λ k. store_view (g.K.Keeper.contents k) (g.K.Keeper.parts k) (g.K.Keeper.failing k) (g.K.Keeper.faults k) in
    always_err _ _ (ends_early tells AtStart (λ given d. drops_spared given c.args.repo d) (λ given d. shares_logs given c.args.repo d) c.args.running.now c.drop_spared.new.running later_start (λ given d. c.drivers_only_add.ensures.shares given c.args.repo d) c.in_err-drop_spared.ensures.stopped)

pub returns-in_err-drop_spared-clause-rest : goal.returns-in_err-drop_spared-clause-rest
returns-in_err-drop_spared-clause-rest g c = c.drop_spared.ensures.rest
