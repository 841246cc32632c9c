-- What the proof of `crashing::crash` needs beside the tactics.
use Rattle.std.proofs.Common.{ap, ◌∙◌}
use Rattle.fleet_entries.specs.Stored.{StoreView, store_view}
use Rattle.fleet_entries.specs.AtDriver.{EndsAtFull}
use Rattle.fleet_entries.specs.Fleets.{FleetView}
use Rattle.fleet_entries.specs.Telling.{Tells}
use Rattle.driver_model.specs.ScriptSteps.{crashes}
use Rattle.fleet_entries.proofs.Called.{seen_as}
use Rattle.fleet_entries.proofs.Full.{ends_for, rest_on}
use Rattle.fleet_entries.proofs.Starts.{call_ends, start_full}
use Rattle.fleet_turns.proofs.Closes.{no_bundle}
use Rattle.fleet_turns.proofs.Crashes.{CrashLaws, IsCrashed, crash_ends, crashed_within, crashes_on}
use Rattle.fleet_turns.proofs.crashing.crash.Goals as goal

pub after_step-line-requires : goal.after_step-line-requires
after_step-line-requires g c = record { bundle = no_bundle c.crash-done.result c.crash-done.ensures.refused }

pub end_call-requires-clause-had : goal.end_call-requires-clause-had
end_call-requires-clause-had g c =
    let tells : g.row.K.Denot → StoreView = λ k. store_view (g.K.Keeper.contents k) (g.K.Keeper.parts k) (g.K.Keeper.failing k) (g.K.Keeper.faults k) in
    crashed_within tells c.args.repo c.args.clock c.raise-had.result c.crash-done.result c.args.running.now (record { nodes = c.running.inside.nodes; run = c.running.inside.run }) c.crash-done.new.self c.carry.new.self
    (seen_as tells c.args.repo c.raise-had.result c.args.running.now c.raise-had.new.self c.running.inside.nodes c.running.inside.run c.running.view_is c.raise-had.ensures) c.requires.there
    c.crash-done.ensures.ok c.crash-done.ensures.err c.crash-done.ensures.count c.carry.ensures.node

pub returns : goal.returns
returns g c =
    let tells : g.row.K.Denot → StoreView = λ k. store_view (g.K.Keeper.contents k) (g.K.Keeper.parts k) (g.K.Keeper.failing k) (g.K.Keeper.faults k) in
    let up : FleetView g.row.K.Denot = record { nodes = c.running.inside.nodes; run = c.running.inside.run } in
    let called_now : FleetView g.row.K.Denot = record { nodes = c.carry.new.self; run = c.running.inside.run } in
    let laws : CrashLaws tells = record { comes = c.fleets_crash.ensures tells; full = c.fleets_stop_at_full_histories.ensures.crash tells } in
    let crashed : (all : FleetView g.row.K.Denot) → Tells tells c.args.repo c.raise-had.result called_now all → IsCrashed tells c.args.repo c.args.clock c.raise-had.result c.crash-done.result c.args.running.now up c.crash-done.new.self c.carry.new.self all = λ all told. record {
      call = record {
        raises = seen_as tells c.args.repo c.raise-had.result c.args.running.now c.raise-had.new.self c.running.inside.nodes c.running.inside.run c.running.view_is c.raise-had.ensures;
        others = c.crash-done.ensures.others;
        count = c.crash-done.ensures.count;
        rest = c.carry.ensures.node;
        links = c.carry.ensures.links;
        others_rest = c.carry.ensures.others;
        others_links = c.carry.ensures.other_links;
        carried_count = c.carry.ensures.count;
        told = told;
      };
      holds = λ n m at_n at_m. record {
        ok = c.crash-done.ensures.ok n m at_n at_m;
        full = c.crash-done.ensures.full n m at_n at_m;
        err = c.crash-done.ensures.err n m at_n at_m;
      };
      few = c.are_few.ensures;
      near = c.requires.near;
    } in
    let ends = call_ends tells (λ given d. crashes given c.args.repo c.args.clock d) c.args.repo c.raise-had.result c.args.running.now called_now c.end_call.new.self c.after_step-line.result c.end_call.result _
    (λ q all. EndsAtFull tells q (λ given d. crashes given c.args.repo c.args.clock d) c.args.running.now all)
    (ap (λ (f : FleetView g.row.K.Denot). f.run) c.running.view_is ∙ c.raise-had.ensures.run) (λ given d. c.drivers_only_add.ensures.crashes given c.args.repo c.args.clock d)
    (λ q all ends. start_full tells q (λ given d. crashes given c.args.repo c.args.clock d) c.args.running.now all ends)
    c.after_step-line.ensures.ok
    (λ all told ended.
    crashes_on tells laws c.args.repo c.args.clock c.raise-had.result c.crash-done.result c.args.running.now up c.crash-done.new.self c.carry.new.self all c.requires.there (crashed all told)
    ended c.crash-done.ensures.refused (λ given d known. c.drivers_stay_sound.ensures.crashes given c.args.repo c.args.clock d known))
    (λ all told r e. let full = c.after_step-line.ensures.full r e in
    ends_for tells c.args.repo r (λ given d. crashes given c.args.repo c.args.clock d) c.args.running.now all full.0
    (crash_ends tells laws c.args.repo c.args.clock c.raise-had.result c.crash-done.result c.args.running.now up c.crash-done.new.self c.carry.new.self all c.requires.there (crashed all told) full.1))
    c.end_call.ensures.ok c.end_call.ensures.full c.end_call.ensures.stopped c.end_call.ensures.short in
    record {
      ok = ends.ok;
      full = ends.full;
      stopped = ends.stopped;
      rest = rest_on c.args.running.now c.raise-had.new.self c.running.inside.nodes c.carry.new.self c.running.inside.run c.end_call.new.self c.running.view_is c.raise-had.ensures.run c.end_call.ensures.rest;
    }
