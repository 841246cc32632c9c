-- What the proof of `carrying::begin_and_settle` needs beside the tactics.
use Rattle.fleet_entries.specs.Stored.{StoreView, store_view}
use Rattle.driver_model.specs.Rounds.{settles}
use Rattle.driver_model.specs.ScriptSteps.{begins}
use Rattle.fleet_entries.specs.AtDriver.{most_lines}
use Rattle.fleet_entries.proofs.Driving.{driven_on}
use Rattle.fleet_entries.proofs.Few.{begins_few}
use Rattle.fleet_entries.proofs.Ended.{on_ok}
use Rattle.fleet_entries.proofs.Ending.{AtFull, ends_early, ends_late, goes_twice, later_full}
use Rattle.fleet_entries.proofs.Full.{rest_then, same_err}
use Rattle.fleet_entries.proofs.Starts.{AtStart, always_err, later_start, on_err}
use Rattle.fleet_syncs.proofs.carrying.begin_and_settle.Goals as goal

pub settle-requires : goal.settle-requires
settle-requires g c =
    let tells : g.row.K.Denot → StoreView = λ k. store_view (g.K.Keeper.contents k) (g.K.Keeper.parts k) (g.K.Keeper.failing k) (g.K.Keeper.faults k) in
    record { driven = driven_on tells most_lines most_lines (λ given d. begins c.args.repo c.args.job.now d) c.args.running.now c.begin.new.running (λ given d. begins_few most_lines c.args.repo c.args.job.now d) c.requires.driven c.in_ok-begin.ensures.ok }

pub returns : goal.returns
returns g c =
    let tells : g.row.K.Denot → StoreView = λ k. store_view (g.K.Keeper.contents k) (g.K.Keeper.parts k) (g.K.Keeper.failing k) (g.K.Keeper.faults k) in
    record {
      ok = on_ok c.settle.result _ _ c.settle.ensures.ok (λ goes. goes_twice tells (λ given d. begins c.args.repo c.args.job.now d) (λ given d. settles given d) c.args.running.now c.begin.new.running c.settle.new.running c.in_ok-begin.ensures.ok goes);
      full = λ r e. ends_late tells (AtFull r) (λ given d. begins c.args.repo c.args.job.now d) (λ given d. settles given d) c.args.running.now c.begin.new.running c.settle.new.running c.in_ok-begin.ensures.ok (c.settle.ensures.full r e);
      stopped = on_err c.settle.result _ _ c.settle.ensures.stopped (λ stops. ends_late tells AtStart (λ given d. begins c.args.repo c.args.job.now d) (λ given d. settles given d) c.args.running.now c.begin.new.running c.settle.new.running c.in_ok-begin.ensures.ok stops);
      rest = rest_then c.args.running.now c.begin.new.running c.settle.new.running c.begin.ensures.rest c.settle.ensures.rest;
    }

pub returns-in_err-begin-clause-full : goal.returns-in_err-begin-clause-full
returns-in_err-begin-clause-full g c =
    let tells : g.row.K.Denot → StoreView = λ k. store_view (g.K.Keeper.contents k) (g.K.Keeper.parts k) (g.K.Keeper.failing k) (g.K.Keeper.faults k) in
    λ r e. ends_early tells (AtFull r) (λ given d. begins c.args.repo c.args.job.now d) (λ given d. settles given d) c.args.running.now c.begin.new.running (later_full c.runs_are_cut_where_histories_are_full.ensures.later r) c.drivers_only_add.ensures.settles (c.begin.ensures.full r (same_err c.begin.result c.from_residual.result c.in_err-begin.field-0.0 _ c.in_err-begin.was c.from_residual.ensures.1 e))

pub returns-in_err-begin-clause-stopped : goal.returns-in_err-begin-clause-stopped
returns-in_err-begin-clause-stopped g c =
    let tells : g.row.K.Denot → StoreView = λ k. store_view (g.K.Keeper.contents k) (g.K.Keeper.parts k) (g.K.Keeper.failing k) (g.K.Keeper.faults k) in
    always_err _ _ (ends_early tells AtStart (λ given d. begins c.args.repo c.args.job.now d) (λ given d. settles given d) c.args.running.now c.begin.new.running later_start c.drivers_only_add.ensures.settles c.in_err-begin.ensures.stopped)

pub returns-in_err-begin-clause-rest : goal.returns-in_err-begin-clause-rest
returns-in_err-begin-clause-rest g c = c.begin.ensures.rest
