-- What the proof of `carrying::carry_out` needs beside the tactics.
use Rattle.std.proofs.Common.{ℕ, ◌<◌, length, subst, sym, take, arith}
use Rattle.std.proofs.lemmas.List.{take_all}
use Rattle.fleet_entries.specs.Stored.{StoreView, store_view}
use Rattle.driver_model.specs.Syncs.{carries_out}
use Rattle.fleet_entries.specs.AtDriver.{most_lines}
use Rattle.fleet_entries.proofs.Driving.{driven_on, same_count}
use Rattle.fleet_entries.proofs.Ending.{AtFull, later_full}
use Rattle.fleet_entries.proofs.Few.{carries_few}
use Rattle.fleet_entries.proofs.Full.{ok_or_err, rest_then, same_err}
use Rattle.fleet_entries.proofs.Starts.{AtStart, always_err, later_start}
use Rattle.fleet_syncs.proofs.Carried.{all_carried, carries_end, carries_on, carries_walk}
use Rattle.fleet_syncs.proofs.Planned.{may_carry_at}
use Rattle.fleet_syncs.proofs.carrying.carry_out.Goals as goal

pub carry-requires-clause-there : goal.carry-requires-clause-there
carry-requires-clause-there g c =
    let tells : g.row.K.Denot → StoreView = λ k. store_view (g.K.Keeper.contents k) (g.K.Keeper.parts k) (g.K.Keeper.failing k) (g.K.Keeper.faults k) in
    subst (λ (n : ℕ). c.args.repo < n) (sym (same_count tells (λ given d. carries_out given c.args.repo (take c.loop-action.action-index c.args.actions.now) d) c.args.running.now c.loop-action.running c.requires.driven c.loop-action.invariant.goes)) c.requires.there

pub carry-requires-clause-driven : goal.carry-requires-clause-driven
carry-requires-clause-driven g c =
    let tells : g.row.K.Denot → StoreView = λ k. store_view (g.K.Keeper.contents k) (g.K.Keeper.parts k) (g.K.Keeper.failing k) (g.K.Keeper.faults k) in
    driven_on tells most_lines most_lines (λ given d. carries_out given c.args.repo (take c.loop-action.action-index c.args.actions.now) d) c.args.running.now c.loop-action.running (λ given d. carries_few most_lines given c.args.repo (take c.loop-action.action-index c.args.actions.now) d) c.requires.driven c.loop-action.invariant.goes

pub carry-requires-clause-may : goal.carry-requires-clause-may
carry-requires-clause-may g c =
    let tells : g.row.K.Denot → StoreView = λ k. store_view (g.K.Keeper.contents k) (g.K.Keeper.parts k) (g.K.Keeper.failing k) (g.K.Keeper.faults k) in
    may_carry_at (length c.args.running.now.nodes) (length c.loop-action.running.nodes) c.args.repo c.loop-action.action-index c.args.actions.now c.action-item.result
    (same_count tells (λ given d. carries_out given c.args.repo (take c.loop-action.action-index c.args.actions.now) d) c.args.running.now c.loop-action.running c.requires.driven c.loop-action.invariant.goes) c.loop-action-test.true c.action-item.is c.requires.may

pub loop-action-preserved : goal.loop-action-preserved
loop-action-preserved g c =
    let tells : g.row.K.Denot → StoreView = λ k. store_view (g.K.Keeper.contents k) (g.K.Keeper.parts k) (g.K.Keeper.failing k) (g.K.Keeper.faults k) in
    record {
      goes = carries_on tells c.args.repo c.loop-action.action-index c.args.actions.now c.action-item.result c.args.running.now c.loop-action.running c.carry.new.running (carries_walk c.args.repo c.drivers_only_add.ensures.carries) c.loop-action-test.true c.action-item.is c.loop-action.invariant.goes c.in_ok-carry.ensures.ok;
      rest = rest_then c.args.running.now c.loop-action.running c.carry.new.running c.loop-action.invariant.rest c.carry.ensures.rest;
    }

pub returns : goal.returns
returns g c =
    let tells : g.row.K.Denot → StoreView = λ k. store_view (g.K.Keeper.contents k) (g.K.Keeper.parts k) (g.K.Keeper.failing k) (g.K.Keeper.faults k) in
    record {
      ok = all_carried tells c.args.repo c.loop-action.action-index c.args.actions.now c.args.running.now c.loop-action.running (take_all c.loop-action.action-index c.args.actions.now (omega (arith, c.loop-action-test.false))) c.loop-action.invariant.goes;
      full = λ r e. absurd (ok_or_err _ _ e);
      stopped = tt;
      rest = c.loop-action.invariant.rest;
    }

pub returns-in_err-carry-clause-full : goal.returns-in_err-carry-clause-full
returns-in_err-carry-clause-full g c =
    let tells : g.row.K.Denot → StoreView = λ k. store_view (g.K.Keeper.contents k) (g.K.Keeper.parts k) (g.K.Keeper.failing k) (g.K.Keeper.faults k) in
    λ r e. carries_end tells (AtFull r) c.args.repo c.loop-action.action-index c.args.actions.now c.action-item.result c.args.running.now c.loop-action.running c.carry.new.running (later_full c.runs_are_cut_where_histories_are_full.ensures.later r) (carries_walk c.args.repo c.drivers_only_add.ensures.carries)
    c.loop-action-test.true c.action-item.is c.loop-action.invariant.goes (c.carry.ensures.full r (same_err c.carry.result c.from_residual.result c.in_err-carry.field-0.0 _ c.in_err-carry.was c.from_residual.ensures.1 e))

pub returns-in_err-carry-clause-stopped : goal.returns-in_err-carry-clause-stopped
returns-in_err-carry-clause-stopped g c =
    let tells : g.row.K.Denot → StoreView = λ k. store_view (g.K.Keeper.contents k) (g.K.Keeper.parts k) (g.K.Keeper.failing k) (g.K.Keeper.faults k) in
    always_err _ _ (carries_end tells AtStart c.args.repo c.loop-action.action-index c.args.actions.now c.action-item.result c.args.running.now c.loop-action.running c.carry.new.running later_start (carries_walk c.args.repo c.drivers_only_add.ensures.carries) c.loop-action-test.true c.action-item.is c.loop-action.invariant.goes c.in_err-carry.ensures.stopped)

pub returns-in_err-carry-clause-rest : goal.returns-in_err-carry-clause-rest
returns-in_err-carry-clause-rest g c = rest_then c.args.running.now c.loop-action.running c.carry.new.running c.loop-action.invariant.rest c.carry.ensures.rest
