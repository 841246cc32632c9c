-- What the proof of `syncing::share_and_transfer` needs beside the tactics.
use Rattle.std.proofs.Common.{ℕ, ◌<◌, subst, sym}
use Rattle.fleet_entries.specs.Stored.{StoreView, store_view}
use Rattle.driver_model.specs.Syncs.{shares_logs, transfers}
use Rattle.fleet_entries.specs.AtDriver.{most_lines}
use Rattle.fleet_entries.proofs.Driving.{driven_on, same_count}
use Rattle.fleet_entries.proofs.Few.{shares_few}
use Rattle.fleet_entries.proofs.Ended.{on_ok}
use Rattle.fleet_entries.proofs.Ending.{AtFull, ends_early, ends_late, goes_twice, later_full}
use Rattle.fleet_entries.proofs.Full.{rest_then, same_err}
use Rattle.fleet_entries.proofs.Starts.{AtStart, always_err, later_start, on_err}
use Rattle.fleet_syncs.proofs.syncing.share_and_transfer.Goals as goal

pub transfer-requires-clause-there : goal.transfer-requires-clause-there
transfer-requires-clause-there g c = λ κs lives.
    let tells : g.row.K.Denot → StoreView = λ k. store_view (g.K.Keeper.contents k) (g.K.Keeper.parts k) (g.K.Keeper.failing k) (g.K.Keeper.faults k) in
    subst (λ (n : ℕ). c.args.repo < n) (sym (same_count tells (λ given d. shares_logs given c.args.repo d) c.args.running.now c.share_logs.new.running c.requires.driven c.in_ok-share_logs.ensures.ok)) c.requires.there

pub transfer-requires-clause-driven : goal.transfer-requires-clause-driven
transfer-requires-clause-driven g c = λ κs lives.
    let tells : g.row.K.Denot → StoreView = λ k. store_view (g.K.Keeper.contents k) (g.K.Keeper.parts k) (g.K.Keeper.failing k) (g.K.Keeper.faults k) in
    driven_on tells most_lines most_lines (λ given d. shares_logs given c.args.repo d) c.args.running.now c.share_logs.new.running (λ given d. shares_few most_lines given c.args.repo d) c.requires.driven c.in_ok-share_logs.ensures.ok

pub returns : goal.returns
returns g c =
    let tells : g.row.K.Denot → StoreView = λ k. store_view (g.K.Keeper.contents k) (g.K.Keeper.parts k) (g.K.Keeper.failing k) (g.K.Keeper.faults k) in
    record {
      ok = on_ok c.transfer.result _ _ c.transfer.ensures.ok (λ goes. goes_twice tells (λ given d. shares_logs given c.args.repo d) (λ given d. transfers given c.args.repo d) c.args.running.now c.share_logs.new.running c.transfer.new.running c.in_ok-share_logs.ensures.ok goes);
      full = λ r e. ends_late tells (AtFull r) (λ given d. shares_logs given c.args.repo d) (λ given d. transfers given c.args.repo d) c.args.running.now c.share_logs.new.running c.transfer.new.running c.in_ok-share_logs.ensures.ok (c.transfer.ensures.full r e);
      stopped = on_err c.transfer.result _ _ c.transfer.ensures.stopped (λ stops. ends_late tells AtStart (λ given d. shares_logs given c.args.repo d) (λ given d. transfers given c.args.repo d) c.args.running.now c.share_logs.new.running c.transfer.new.running c.in_ok-share_logs.ensures.ok stops);
      rest = rest_then c.args.running.now c.share_logs.new.running c.transfer.new.running c.share_logs.ensures.rest c.transfer.ensures.rest;
    }

pub returns-in_err-share_logs-clause-full : goal.returns-in_err-share_logs-clause-full
returns-in_err-share_logs-clause-full g c =
    let tells : g.row.K.Denot → StoreView = λ k. store_view (g.K.Keeper.contents k) (g.K.Keeper.parts k) (g.K.Keeper.failing k) (g.K.Keeper.faults k) in
    λ r e. ends_early tells (AtFull r) (λ given d. shares_logs given c.args.repo d) (λ given d. transfers given c.args.repo d) c.args.running.now c.share_logs.new.running (later_full c.runs_are_cut_where_histories_are_full.ensures.later r) (λ given d. c.drivers_only_add.ensures.transfers given c.args.repo d) (c.share_logs.ensures.full r (same_err c.share_logs.result c.from_residual.result c.in_err-share_logs.field-0.0 _ c.in_err-share_logs.was c.from_residual.ensures.1 e))

pub returns-in_err-share_logs-clause-stopped : goal.returns-in_err-share_logs-clause-stopped
returns-in_err-share_logs-clause-stopped g c =
    let tells : g.row.K.Denot → StoreView = λ k. store_view (g.K.Keeper.contents k) (g.K.Keeper.parts k) (g.K.Keeper.failing k) (g.K.Keeper.faults k) in
    always_err _ _ (ends_early tells AtStart (λ given d. shares_logs given c.args.repo d) (λ given d. transfers given c.args.repo d) c.args.running.now c.share_logs.new.running later_start (λ given d. c.drivers_only_add.ensures.transfers given c.args.repo d) c.in_err-share_logs.ensures.stopped)

pub returns-in_err-share_logs-clause-rest : goal.returns-in_err-share_logs-clause-rest
returns-in_err-share_logs-clause-rest g c = c.share_logs.ensures.rest
