-- What the proof of `jobs::begin_with` needs beside the tactics.
use Rattle.std.proofs.Common.{ap, length, refl, ◌∙◌}
use Rattle.fleet_entries.specs.Stored.{StoreView, store_view}
use Rattle.driver_model.specs.ScriptSteps.{begins}
use Rattle.fleet_entries.specs.AtDriver.{EndsAtFull}
use Rattle.fleet_entries.specs.Fleets.{FleetView}
use Rattle.fleet_keys.proofs.Beginning.{BeginsJob, begins_go_so, begun_job, node_begins}
use Rattle.fleet_entries.proofs.Called.{called, seen_as}
use Rattle.fleet_keys.proofs.Growing.{begin_grows}
use Rattle.fleet_entries.proofs.Growing.{had_at_most}
use Rattle.fleet_keys.proofs.FullJobs.{RefusesJob, begins_end, refuses_job}
use Rattle.fleet_entries.proofs.Full.{ends_for, rest_on, rest_where_same}
use Rattle.fleet_entries.proofs.Starts.{always_err, call_ends, few_told, start_full, start_same}
use Rattle.fleet_keys.proofs.jobs.begin_with.Goals as goal

pub begin-begun-requires-clause-may : goal.begin-begun-requires-clause-may
begin-begun-requires-clause-may g c =
    let tells : g.row.K.Denot → StoreView = λ k. store_view (g.K.Keeper.contents k) (g.K.Keeper.parts k) (g.K.Keeper.failing k) (g.K.Keeper.faults k) in
    node_begins tells c.args.repo c.raise-had.result c.args.running.now (record { nodes = c.running.inside.nodes; run = c.running.inside.run }) c.args.job.now c.in_ok-job.job c.requires.driven
    (seen_as tells c.args.repo c.raise-had.result c.args.running.now c.raise-had.new.self c.running.inside.nodes c.running.inside.run c.running.view_is c.raise-had.ensures) c.requires.there c.in_ok-job.ensures c.requires.may

pub end_call-requires-clause-had : goal.end_call-requires-clause-had
end_call-requires-clause-had g c =
    let tells : g.row.K.Denot → StoreView = λ k. store_view (g.K.Keeper.contents k) (g.K.Keeper.parts k) (g.K.Keeper.failing k) (g.K.Keeper.faults k) in
    had_at_most tells c.args.repo c.raise-had.result c.args.running.now (record { nodes = c.running.inside.nodes; run = c.running.inside.run }) c.begin-begun.new.self
    (seen_as tells c.args.repo c.raise-had.result c.args.running.now c.raise-had.new.self c.running.inside.nodes c.running.inside.run c.running.view_is c.raise-had.ensures) c.requires.there
    (λ n m at_n at_m. begin_grows c.in_ok-job.job c.args.paths c.begin-begun.result n m (record {
      number = c.begin-begun.ensures.number n m at_n at_m;
      jobs = c.begin-begun.ensures.jobs n m at_n at_m;
      ok = c.begin-begun.ensures.ok n m at_n at_m;
      slot = c.begin-begun.ensures.slot n m at_n at_m;
      free = c.begin-begun.ensures.free n m at_n at_m;
      err = c.begin-begun.ensures.err n m at_n at_m;
    }))

pub returns : goal.returns
returns g c =
    let tells : g.row.K.Denot → StoreView = λ k. store_view (g.K.Keeper.contents k) (g.K.Keeper.parts k) (g.K.Keeper.failing k) (g.K.Keeper.faults k) in
    let called_now : FleetView g.row.K.Denot = record { nodes = c.begin-begun.new.self; run = c.running.inside.run } in
    let ends = call_ends tells (λ given d. begins c.args.repo c.args.job.now d) c.args.repo c.raise-had.result c.args.running.now called_now c.end_call.new.self c.after_begin-line.result c.end_call.result _
    (λ q all. EndsAtFull tells q (λ given d. begins c.args.repo c.args.job.now d) c.args.running.now all)
    (ap (λ (f : FleetView g.row.K.Denot). f.run) c.running.view_is ∙ c.raise-had.ensures.run) (λ given d. c.drivers_only_add.ensures.begins c.args.repo c.args.job.now d)
    (λ q all ends. start_full tells q (λ given d. begins c.args.repo c.args.job.now d) c.args.running.now all ends)
    c.after_begin-line.ensures.ok
    (λ all told ended.
    begins_go_so tells c.args.repo c.args.running.now (record { nodes = c.running.inside.nodes; run = c.running.inside.run }) all c.args.job.now c.in_ok-job.job c.args.paths c.begin-begun.result c.in_ok-job.ensures c.requires.paths (c.fleets_do_lines.ensures.job tells) (c.fleets_do_lines.ensures.no_slot tells) c.requires.there
    (called tells c.args.repo c.raise-had.result c.args.running.now c.raise-had.new.self c.running.inside.nodes c.begin-begun.new.self c.running.inside.run all
    (BeginsJob c.in_ok-job.job c.args.paths c.begin-begun.result)
    c.running.view_is c.raise-had.ensures c.begin-begun.ensures.others c.begin-begun.ensures.count
    (λ n m at_n at_m. record {
      number = c.begin-begun.ensures.number n m at_n at_m;
      jobs = c.begin-begun.ensures.jobs n m at_n at_m;
      ok = c.begin-begun.ensures.ok n m at_n at_m;
      slot = c.begin-begun.ensures.slot n m at_n at_m;
      free = c.begin-begun.ensures.free n m at_n at_m;
      err = c.begin-begun.ensures.err n m at_n at_m;
    })
    told)
    ended (λ given d many known. c.drivers_stay_sound.ensures.begins given c.args.repo c.args.job.now d known (begun_job given c.args.repo (length c.args.running.now.nodes) c.args.job.now many c.requires.may c.requires.key)))
    (λ all told r e. let full = c.after_begin-line.ensures.full r e in
    ends_for tells c.args.repo r (λ given d. begins c.args.repo c.args.job.now d) c.args.running.now all full.0
    (begins_end tells c.args.repo c.args.running.now (record { nodes = c.running.inside.nodes; run = c.running.inside.run }) all c.args.job.now (c.fleets_stop_at_full_histories.ensures.job tells) c.requires.there
    (called tells c.args.repo c.raise-had.result c.args.running.now c.raise-had.new.self c.running.inside.nodes c.begin-begun.new.self c.running.inside.run all
    RefusesJob
    c.running.view_is c.raise-had.ensures c.begin-begun.ensures.others c.begin-begun.ensures.count
    (λ n m at_n at_m. refuses_job c.in_ok-job.job c.args.paths c.begin-begun.result n m full.1
    (record {
      number = c.begin-begun.ensures.number n m at_n at_m;
      jobs = c.begin-begun.ensures.jobs n m at_n at_m;
      ok = c.begin-begun.ensures.ok n m at_n at_m;
      slot = c.begin-begun.ensures.slot n m at_n at_m;
      free = c.begin-begun.ensures.free n m at_n at_m;
      err = c.begin-begun.ensures.err n m at_n at_m;
    })
    (c.begin-begun.ensures.full n m at_n at_m))
    told)
    (few_told tells c.args.repo c.raise-had.result called_now all told (c.after_begin-line.ensures.few r e))))
    c.end_call.ensures.ok c.end_call.ensures.full c.end_call.ensures.stopped c.end_call.ensures.short in
    record {
      ok = ends.ok;
      full = ends.full;
      stopped = ends.stopped;
      rest = rest_on c.args.running.now c.raise-had.new.self c.running.inside.nodes c.begin-begun.new.self c.running.inside.run c.end_call.new.self c.running.view_is c.raise-had.ensures.run c.end_call.ensures.rest;
    }

pub returns-in_err-job-clause-stopped : goal.returns-in_err-job-clause-stopped
returns-in_err-job-clause-stopped g c =
    let tells : g.row.K.Denot → StoreView = λ k. store_view (g.K.Keeper.contents k) (g.K.Keeper.parts k) (g.K.Keeper.failing k) (g.K.Keeper.faults k) in
    always_err _ _ (start_same tells (λ given d. begins c.args.repo c.args.job.now d) c.args.running.now c.args.running.now (λ given d. c.drivers_only_add.ensures.begins c.args.repo c.args.job.now d) refl)

pub returns-in_err-job-clause-rest : goal.returns-in_err-job-clause-rest
returns-in_err-job-clause-rest g c = rest_where_same c.args.running.now c.args.running.now refl
