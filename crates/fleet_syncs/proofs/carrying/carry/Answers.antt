-- What the proof of `carrying::carry` needs beside the tactics.
use Rattle.std.proofs.Common.{◌∷◌, [], length, refl, subst, sym}
use Rattle.run_data.specs.declared.job.Job.{Job}
use Rattle.driver_model.specs.Rounds.{settles}
use Rattle.driver_model.specs.ScriptSteps.{begins}
use Rattle.driver_model.specs.Syncs.{carries_out}
use Rattle.fleet_entries.specs.Stored.{StoreView, store_view}
use Rattle.fleet_entries.specs.AtDriver.{EndsAtFull, GoesOn, StopsWithin}
use Rattle.fleet_entries.proofs.Ended.{on_ok}
use Rattle.fleet_entries.proofs.Full.{rest_where_same}
use Rattle.fleet_entries.proofs.Starts.{always_err, on_err, start_same}
use Rattle.fleet_keys.specs.Jobs.{MayBeginAmong}
use Rattle.fleet_syncs.proofs.Wanting.{never_full}
use Rattle.fleet_syncs.proofs.carrying.carry.Goals as goal

pub begin_and_settle-requires-clause-driven : goal.begin_and_settle-requires-clause-driven
begin_and_settle-requires-clause-driven g c = c.requires.driven

pub begin_and_settle-requires-clause-may : goal.begin_and_settle-requires-clause-may
begin_and_settle-requires-clause-may g c = subst (MayBeginAmong (length c.args.running.now.nodes) c.args.repo) (sym c.in_ok-job.ensures.job) c.requires.may

pub returns : goal.returns
returns g c =
    let tells : g.row.K.Denot → StoreView = λ k. store_view (g.K.Keeper.contents k) (g.K.Keeper.parts k) (g.K.Keeper.failing k) (g.K.Keeper.faults k) in
    record {
      ok = on_ok c.begin_and_settle.result _ _ c.begin_and_settle.ensures.ok (λ goes. subst (λ (job : Job). GoesOn tells (λ given d. settles given (begins c.args.repo job d)) c.args.running.now c.begin_and_settle.new.running) c.in_ok-job.ensures.job goes);
      full = λ r e. subst (λ (job : Job). EndsAtFull tells r (λ given d. settles given (begins c.args.repo job d)) c.args.running.now c.begin_and_settle.new.running) c.in_ok-job.ensures.job (c.begin_and_settle.ensures.full r e);
      stopped = on_err c.begin_and_settle.result _ _ c.begin_and_settle.ensures.stopped (λ stops. subst (λ (job : Job). StopsWithin tells (λ given d. settles given (begins c.args.repo job d)) c.args.running.now c.begin_and_settle.new.running) c.in_ok-job.ensures.job stops);
      rest = c.begin_and_settle.ensures.rest;
    }

pub returns-in_err-job-clause-full : goal.returns-in_err-job-clause-full
returns-in_err-job-clause-full g c = λ r e. absurd (never_full c.from_residual.result r c.from_residual.ensures.1 e)

pub returns-in_err-job-clause-stopped : goal.returns-in_err-job-clause-stopped
returns-in_err-job-clause-stopped g c =
    let tells : g.row.K.Denot → StoreView = λ k. store_view (g.K.Keeper.contents k) (g.K.Keeper.parts k) (g.K.Keeper.failing k) (g.K.Keeper.faults k) in
    always_err _ _ (start_same tells (λ given d. carries_out given c.args.repo (c.args.action.now ∷ []) d) c.args.running.now c.args.running.now (λ given d. c.drivers_only_add.ensures.carries given c.args.repo (c.args.action.now ∷ []) d) refl)

pub returns-in_err-job-clause-rest : goal.returns-in_err-job-clause-rest
returns-in_err-job-clause-rest g c = rest_where_same c.args.running.now c.args.running.now refl
