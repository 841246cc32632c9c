-- What the proof of `syncing::sync` needs beside the tactics.
use Rattle.std.proofs.Common.{ℕ, ◌<◌, subst, sym}
use Rattle.fleet_entries.specs.Stored.{StoreView, store_view}
use Rattle.driver_model.specs.Syncs.{drops_spared, shares_logs, transfers}
use Rattle.fleet_entries.specs.AtDriver.{most_lines}
use Rattle.fleet_entries.proofs.Driving.{driven_on, same_count}
use Rattle.fleet_entries.proofs.Few.{shares_few, transfers_few}
use Rattle.fleet_entries.proofs.Ended.{on_ok}
use Rattle.fleet_entries.proofs.Ending.{AtFull, ends_early, ends_late, goes_twice, later_full}
use Rattle.fleet_entries.proofs.Full.{rest_then, same_err}
use Rattle.fleet_entries.proofs.Starts.{AtStart, always_err, later_start, on_err}
use Rattle.fleet_syncs.proofs.Walks.{adds_twice}
use Rattle.fleet_syncs.proofs.syncing.sync.Goals as goal

pub drop_and_share-requires-clause-there : goal.drop_and_share-requires-clause-there
drop_and_share-requires-clause-there g c = λ κs lives.
    let tells : g.row.K.Denot → StoreView = λ k. store_view (g.K.Keeper.contents k) (g.K.Keeper.parts k) (g.K.Keeper.failing k) (g.K.Keeper.faults k) in
    subst (λ (n : ℕ). c.args.repo < n) (sym (same_count tells (λ given d. transfers given c.args.repo (shares_logs given c.args.repo d)) c.args.running.now c.share_and_transfer.new.running c.requires.driven c.in_ok-share_and_transfer.ensures.ok)) c.requires.there

pub drop_and_share-requires-clause-driven : goal.drop_and_share-requires-clause-driven
drop_and_share-requires-clause-driven g c = λ κs lives.
    let tells : g.row.K.Denot → StoreView = λ k. store_view (g.K.Keeper.contents k) (g.K.Keeper.parts k) (g.K.Keeper.failing k) (g.K.Keeper.faults k) in
    driven_on tells most_lines most_lines (λ given d. transfers given c.args.repo (shares_logs given c.args.repo d)) c.args.running.now c.share_and_transfer.new.running (λ given d few. transfers_few most_lines given c.args.repo (shares_logs given c.args.repo d) (shares_few most_lines given c.args.repo d few)) c.requires.driven c.in_ok-share_and_transfer.ensures.ok

pub returns : goal.returns
returns g c =
    let tells : g.row.K.Denot → StoreView = λ k. store_view (g.K.Keeper.contents k) (g.K.Keeper.parts k) (g.K.Keeper.failing k) (g.K.Keeper.faults k) in
    record {
      ok = on_ok c.drop_and_share.result _ _ c.drop_and_share.ensures.ok (λ goes. goes_twice tells (λ given d. transfers given c.args.repo (shares_logs given c.args.repo d)) (λ given d. shares_logs given c.args.repo (drops_spared given c.args.repo d)) c.args.running.now c.share_and_transfer.new.running c.drop_and_share.new.running c.in_ok-share_and_transfer.ensures.ok goes);
      full = λ r e. ends_late tells (AtFull r) (λ given d. transfers given c.args.repo (shares_logs given c.args.repo d)) (λ given d. shares_logs given c.args.repo (drops_spared given c.args.repo d)) c.args.running.now c.share_and_transfer.new.running c.drop_and_share.new.running c.in_ok-share_and_transfer.ensures.ok (c.drop_and_share.ensures.full r e);
      stopped = on_err c.drop_and_share.result _ _ c.drop_and_share.ensures.stopped (λ stops. ends_late tells AtStart (λ given d. transfers given c.args.repo (shares_logs given c.args.repo d)) (λ given d. shares_logs given c.args.repo (drops_spared given c.args.repo d)) c.args.running.now c.share_and_transfer.new.running c.drop_and_share.new.running c.in_ok-share_and_transfer.ensures.ok stops);
      rest = rest_then c.args.running.now c.share_and_transfer.new.running c.drop_and_share.new.running c.share_and_transfer.ensures.rest c.drop_and_share.ensures.rest;
    }

pub returns-in_err-share_and_transfer-clause-full : goal.returns-in_err-share_and_transfer-clause-full
returns-in_err-share_and_transfer-clause-full g c =
    let tells : g.row.K.Denot → StoreView = λ k. store_view (g.K.Keeper.contents k) (g.K.Keeper.parts k) (g.K.Keeper.failing k) (g.K.Keeper.faults k) in
    λ r e. ends_early tells (AtFull r) (λ given d. transfers given c.args.repo (shares_logs given c.args.repo d)) (λ given d. shares_logs given c.args.repo (drops_spared given c.args.repo d)) c.args.running.now c.share_and_transfer.new.running (later_full c.runs_are_cut_where_histories_are_full.ensures.later r) (λ given d. adds_twice d (drops_spared given c.args.repo d) (shares_logs given c.args.repo (drops_spared given c.args.repo d)) (c.drivers_only_add.ensures.drops given c.args.repo d) (c.drivers_only_add.ensures.shares given c.args.repo (drops_spared given c.args.repo d))) (c.share_and_transfer.ensures.full r (same_err c.share_and_transfer.result c.from_residual.result c.in_err-share_and_transfer.field-0.0 _ c.in_err-share_and_transfer.was c.from_residual.ensures.1 e))

pub returns-in_err-share_and_transfer-clause-stopped : goal.returns-in_err-share_and_transfer-clause-stopped
returns-in_err-share_and_transfer-clause-stopped g c =
    let tells : g.row.K.Denot → StoreView = λ k. store_view (g.K.Keeper.contents k) (g.K.Keeper.parts k) (g.K.Keeper.failing k) (g.K.Keeper.faults k) in
    always_err _ _ (ends_early tells AtStart (λ given d. transfers given c.args.repo (shares_logs given c.args.repo d)) (λ given d. shares_logs given c.args.repo (drops_spared given c.args.repo d)) c.args.running.now c.share_and_transfer.new.running later_start (λ given d. adds_twice d (drops_spared given c.args.repo d) (shares_logs given c.args.repo (drops_spared given c.args.repo d)) (c.drivers_only_add.ensures.drops given c.args.repo d) (c.drivers_only_add.ensures.shares given c.args.repo (drops_spared given c.args.repo d))) c.in_err-share_and_transfer.ensures.stopped)

pub returns-in_err-share_and_transfer-clause-rest : goal.returns-in_err-share_and_transfer-clause-rest
returns-in_err-share_and_transfer-clause-rest g c = c.share_and_transfer.ensures.rest
