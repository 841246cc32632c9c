-- What the proof of `sharing::share_logs` needs beside the tactics.
use Rattle.std.proofs.Common.{ℕ, ◌<◌, subst, sym}
use Rattle.fleet_entries.specs.Stored.{StoreView, store_view}
use Rattle.driver_model.specs.Rounds.{settles}
use Rattle.driver_model.specs.Syncs.{each_merges, merges_each, numbers_but}
use Rattle.fleet_entries.specs.AtDriver.{most_lines}
use Rattle.fleet_entries.proofs.Driving.{driven_on, same_count}
use Rattle.fleet_entries.proofs.Few.{settles_few}
use Rattle.fleet_entries.proofs.Ended.{on_ok}
use Rattle.fleet_entries.proofs.Ending.{AtFull, ends_early, ends_late, goes_twice, later_full}
use Rattle.fleet_entries.proofs.Full.{rest_then, same_err}
use Rattle.fleet_entries.proofs.Starts.{AtStart, always_err, later_start, on_err}
use Rattle.fleet_syncs.proofs.Walks.{adds_twice}
use Rattle.fleet_syncs.proofs.sharing.share_logs.Goals as goal

pub exchange-requires-clause-there : goal.exchange-requires-clause-there
exchange-requires-clause-there g c =
    let tells : g.row.K.Denot → StoreView = λ k. store_view (g.K.Keeper.contents k) (g.K.Keeper.parts k) (g.K.Keeper.failing k) (g.K.Keeper.faults k) in
    subst (λ (n : ℕ). c.args.repo < n) (sym (same_count tells (λ given d. settles given d) c.args.running.now c.settle.new.running c.requires.driven c.in_ok-settle.ensures.ok)) c.requires.there

pub exchange-requires-clause-driven : goal.exchange-requires-clause-driven
exchange-requires-clause-driven g c =
    let tells : g.row.K.Denot → StoreView = λ k. store_view (g.K.Keeper.contents k) (g.K.Keeper.parts k) (g.K.Keeper.failing k) (g.K.Keeper.faults k) in
    driven_on tells most_lines most_lines (λ given d. settles given d) c.args.running.now c.settle.new.running (λ given d. settles_few most_lines given d) c.requires.driven c.in_ok-settle.ensures.ok

pub returns : goal.returns
returns g c =
    let tells : g.row.K.Denot → StoreView = λ k. store_view (g.K.Keeper.contents k) (g.K.Keeper.parts k) (g.K.Keeper.failing k) (g.K.Keeper.faults k) in
    record {
      ok = on_ok c.exchange.result _ _ c.exchange.ensures.ok (λ goes. goes_twice tells (λ given d. settles given d) (λ given d. each_merges c.args.repo (numbers_but given c.args.repo) (merges_each c.args.repo (numbers_but given c.args.repo) d)) c.args.running.now c.settle.new.running c.exchange.new.running c.in_ok-settle.ensures.ok goes);
      full = λ r e. ends_late tells (AtFull r) (λ given d. settles given d) (λ given d. each_merges c.args.repo (numbers_but given c.args.repo) (merges_each c.args.repo (numbers_but given c.args.repo) d)) c.args.running.now c.settle.new.running c.exchange.new.running c.in_ok-settle.ensures.ok (c.exchange.ensures.full r e);
      stopped = on_err c.exchange.result _ _ c.exchange.ensures.stopped (λ stops. ends_late tells AtStart (λ given d. settles given d) (λ given d. each_merges c.args.repo (numbers_but given c.args.repo) (merges_each c.args.repo (numbers_but given c.args.repo) d)) c.args.running.now c.settle.new.running c.exchange.new.running c.in_ok-settle.ensures.ok stops);
      rest = rest_then c.args.running.now c.settle.new.running c.exchange.new.running c.settle.ensures.rest c.exchange.ensures.rest;
    }

pub returns-in_err-settle-clause-full : goal.returns-in_err-settle-clause-full
returns-in_err-settle-clause-full g c =
    let tells : g.row.K.Denot → StoreView = λ k. store_view (g.K.Keeper.contents k) (g.K.Keeper.parts k) (g.K.Keeper.failing k) (g.K.Keeper.faults k) in
    λ r e. ends_early tells (AtFull r) (λ given d. settles given d) (λ given d. each_merges c.args.repo (numbers_but given c.args.repo) (merges_each c.args.repo (numbers_but given c.args.repo) d)) c.args.running.now c.settle.new.running (later_full c.runs_are_cut_where_histories_are_full.ensures.later r) (λ given d. adds_twice d (merges_each c.args.repo (numbers_but given c.args.repo) d) (each_merges c.args.repo (numbers_but given c.args.repo) (merges_each c.args.repo (numbers_but given c.args.repo) d))
    (c.drivers_only_add.ensures.merges_each c.args.repo (numbers_but given c.args.repo) d) (c.drivers_only_add.ensures.each_merges c.args.repo (numbers_but given c.args.repo) (merges_each c.args.repo (numbers_but given c.args.repo) d))) (c.settle.ensures.full r (same_err c.settle.result c.from_residual.result c.in_err-settle.field-0.0 _ c.in_err-settle.was c.from_residual.ensures.1 e))

pub returns-in_err-settle-clause-stopped : goal.returns-in_err-settle-clause-stopped
returns-in_err-settle-clause-stopped g c =
    let tells : g.row.K.Denot → StoreView = λ k. store_view (g.K.Keeper.contents k) (g.K.Keeper.parts k) (g.K.Keeper.failing k) (g.K.Keeper.faults k) in
    always_err _ _ (ends_early tells AtStart (λ given d. settles given d) (λ given d. each_merges c.args.repo (numbers_but given c.args.repo) (merges_each c.args.repo (numbers_but given c.args.repo) d)) c.args.running.now c.settle.new.running later_start (λ given d. adds_twice d (merges_each c.args.repo (numbers_but given c.args.repo) d) (each_merges c.args.repo (numbers_but given c.args.repo) (merges_each c.args.repo (numbers_but given c.args.repo) d))
    (c.drivers_only_add.ensures.merges_each c.args.repo (numbers_but given c.args.repo) d) (c.drivers_only_add.ensures.each_merges c.args.repo (numbers_but given c.args.repo) (merges_each c.args.repo (numbers_but given c.args.repo) d))) c.in_err-settle.ensures.stopped)

pub returns-in_err-settle-clause-rest : goal.returns-in_err-settle-clause-rest
returns-in_err-settle-clause-rest g c = c.settle.ensures.rest
