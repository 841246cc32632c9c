-- What the proof of `jobs::begin` needs beside the tactics.
use Rattle.std.proofs.Common.{◌<◌, ◌≡◌, ap, length, subst, sym, ◌∙◌}
use Rattle.fleet_entries.specs.Stored.{StoreView, store_view}
use Rattle.driver_model.specs.ScriptSteps.{begins}
use Rattle.fleet_entries.specs.Fleets.{FleetView}
use Rattle.fleet_entries.specs.AtDriver.{IsDriven}
use Rattle.fleet_keys.specs.Jobs.{MayBeginAmong}
use Rattle.fleet_keys.proofs.Beginning.{paths_in}
use Rattle.fleet_entries.proofs.Full.{rest_where_same}
use Rattle.fleet_entries.proofs.Starts.{always_err, start_same}
use Rattle.fleet_keys.proofs.jobs.begin.Goals as goal

pub begin_with-requires-clause-there : goal.begin_with-requires-clause-there
begin_with-requires-clause-there g c = subst (λ (f : FleetView g.row.K.Denot). c.args.repo < length f.nodes) (sym c.paths.ensures.same) c.requires.there

pub begin_with-requires-clause-may : goal.begin_with-requires-clause-may
begin_with-requires-clause-may g c = subst (λ (f : FleetView g.row.K.Denot). MayBeginAmong (length f.nodes) c.args.repo c.args.job.now) (sym c.paths.ensures.same) c.requires.may

pub begin_with-requires-clause-driven : goal.begin_with-requires-clause-driven
begin_with-requires-clause-driven g c =
    let tells : g.row.K.Denot → StoreView = λ k. store_view (g.K.Keeper.contents k) (g.K.Keeper.parts k) (g.K.Keeper.failing k) (g.K.Keeper.faults k) in
    subst (IsDriven tells) (sym c.paths.ensures.same) c.requires.driven

pub begin_with-requires-clause-paths : goal.begin_with-requires-clause-paths
begin_with-requires-clause-paths g c = c.in_ok-paths.ensures.value ∙ ap (λ (f : FleetView g.row.K.Denot). paths_in f.run c.args.job.now.key) (sym c.paths.ensures.same)

pub returns : goal.returns
returns g c =
    let begun = c.begin_with.ensures in
    rw (← c.paths.ensures.same) (record { ok = begun.ok; full = begun.full; stopped = begun.stopped; rest = begun.rest })

pub returns-in_err-paths-clause-stopped : goal.returns-in_err-paths-clause-stopped
returns-in_err-paths-clause-stopped g c =
    let tells : g.row.K.Denot → StoreView = λ k. store_view (g.K.Keeper.contents k) (g.K.Keeper.parts k) (g.K.Keeper.failing k) (g.K.Keeper.faults k) in
    always_err _ _ (start_same tells (λ given d. begins c.args.repo c.args.job.now d) c.args.running.now c.paths.new.running (λ given d. c.drivers_only_add.ensures.begins c.args.repo c.args.job.now d) (ap (λ (f : FleetView g.row.K.Denot). f.run) c.paths.ensures.same))

pub returns-in_err-paths-clause-rest : goal.returns-in_err-paths-clause-rest
returns-in_err-paths-clause-rest g c = rest_where_same c.args.running.now c.paths.new.running (ap (λ (f : FleetView g.row.K.Denot). f.run) c.paths.ensures.same)
