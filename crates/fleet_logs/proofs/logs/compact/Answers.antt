-- What the proof of `logs::compact` needs beside the tactics.
use Rattle.std.proofs.Common.{◌≡◌, ap, ◌∙◌}
use Rattle.std.specs.Map.{keys_of}
use Rattle.fleet_entries.specs.Calls.{to_compact}
use Rattle.fleet_entries.specs.Stored.{StoreView, store_view}
use Rattle.fleet_entries.specs.Walks.{StopsAfter, compact_files, over}
use Rattle.driver_model.specs.ScriptSteps.{compacts}
use Rattle.fleet_entries.specs.AtDriver.{EndsAtFull}
use Rattle.fleet_entries.specs.Fleets.{FleetView}
use Rattle.fleet_entries.proofs.Called.{called, raised_there, seen_as}
use Rattle.fleet_logs.proofs.Growing.{compact_grows}
use Rattle.fleet_entries.proofs.Growing.{had_at_most}
use Rattle.fleet_logs.proofs.Writing.{WritesFiles, compacts_go}
use Rattle.fleet_entries.proofs.Ended.{never_bundle}
use Rattle.fleet_logs.proofs.Full.{CompactMeets, compacts_end}
use Rattle.fleet_entries.proofs.Full.{ends_for, rest_on}
use Rattle.fleet_entries.proofs.Starts.{call_ends, few_told, start_full}
use Rattle.fleet_logs.proofs.logs.compact.Goals as goal

pub end_call-requires-clause-had : goal.end_call-requires-clause-had
end_call-requires-clause-had g c =
    let tells : g.row.K.Denot → StoreView = λ k. store_view (g.K.Keeper.contents k) (g.K.Keeper.parts k) (g.K.Keeper.failing k) (g.K.Keeper.faults k) in
    had_at_most tells c.args.repo c.raise-had.result c.args.running.now (record { nodes = c.running.inside.nodes; run = c.running.inside.run }) c.compact-done.new.self
    (seen_as tells c.args.repo c.raise-had.result c.args.running.now c.raise-had.new.self c.running.inside.nodes c.running.inside.run c.running.view_is c.raise-had.ensures) c.requires.there
    (λ n m at_n at_m. compact_grows c.compact-done.result n m (c.compact-done.ensures.ok n m at_n at_m) (c.compact-done.ensures.err n m at_n at_m))

pub after_step-line-requires : goal.after_step-line-requires
after_step-line-requires g c =
    let tells : g.row.K.Denot → StoreView = λ k. store_view (g.K.Keeper.contents k) (g.K.Keeper.parts k) (g.K.Keeper.failing k) (g.K.Keeper.faults k) in
    let there = raised_there tells c.args.repo c.raise-had.result c.args.running.now c.raise-had.new.self c.running.inside.nodes c.running.inside.run c.running.view_is c.raise-had.ensures c.requires.there in
    record { bundle = never_bundle c.args.repo c.running.inside.nodes c.compact-done.new.self c.compact-done.result (λ e n m. StopsAfter (compact_files n) (keys_of n.branch) e m) (λ at n m h. h.refused) there c.compact-done.ensures.count c.compact-done.ensures.err }

pub returns : goal.returns
returns g c =
    let tells : g.row.K.Denot → StoreView = λ k. store_view (g.K.Keeper.contents k) (g.K.Keeper.parts k) (g.K.Keeper.failing k) (g.K.Keeper.faults k) in
    let called_now : FleetView g.row.K.Denot = record { nodes = c.compact-done.new.self; run = c.running.inside.run } in
    let ends = call_ends tells (λ given d. compacts c.args.repo d) c.args.repo c.raise-had.result c.args.running.now called_now c.end_call.new.self c.after_step-line.result c.end_call.result _
    (λ q all. EndsAtFull tells q (λ given d. compacts c.args.repo d) c.args.running.now all)
    (ap (λ (f : FleetView g.row.K.Denot). f.run) c.running.view_is ∙ c.raise-had.ensures.run) (λ given d. c.drivers_only_add.ensures.compacts c.args.repo d)
    (λ q all ends. start_full tells q (λ given d. compacts c.args.repo d) c.args.running.now all ends)
    c.after_step-line.ensures.ok
    (λ all told ended.
    compacts_go tells c.args.repo c.args.running.now (record { nodes = c.running.inside.nodes; run = c.running.inside.run }) all c.compact-done.result (c.fleets_do_lines.ensures.compact tells) c.requires.there
    (called tells c.args.repo c.raise-had.result c.args.running.now c.raise-had.new.self c.running.inside.nodes c.compact-done.new.self c.running.inside.run all
    (WritesFiles tells (λ n. to_compact n) (λ n m. m ≡ over m.keeper (compact_files n (keys_of n.branch))) c.compact-done.result)
    c.running.view_is c.raise-had.ensures c.compact-done.ensures.others c.compact-done.ensures.count
    (λ n m at_n at_m. record {
      ok = c.compact-done.ensures.ok n m at_n at_m;
      fault = c.compact-done.ensures.alone n m at_n at_m;
      contents = c.compact-done.ensures.contents n m at_n at_m;
      parts = c.compact-done.ensures.parts n m at_n at_m;
      calls = c.compact-done.ensures.calls n m at_n at_m;
    })
    told)
    ended (λ given d known. c.drivers_stay_sound.ensures.compacts given c.args.repo d known))
    (λ all told r e. let full = c.after_step-line.ensures.full r e in
    ends_for tells c.args.repo r (λ given d. compacts c.args.repo d) c.args.running.now all full.0
    (compacts_end tells c.args.repo c.args.running.now (record { nodes = c.running.inside.nodes; run = c.running.inside.run }) all (c.fleets_stop_at_full_histories.ensures.compact tells) c.requires.there
    (called tells c.args.repo c.raise-had.result c.args.running.now c.raise-had.new.self c.running.inside.nodes c.compact-done.new.self c.running.inside.run all
    (CompactMeets tells)
    c.running.view_is c.raise-had.ensures c.compact-done.ensures.others c.compact-done.ensures.count
    (λ n m at_n at_m. c.compact-done.ensures.full n m at_n at_m full.1)
    told)
    (few_told tells c.args.repo c.raise-had.result called_now all told (c.after_step-line.ensures.few r e))))
    c.end_call.ensures.ok c.end_call.ensures.full c.end_call.ensures.stopped c.end_call.ensures.short in
    record {
      ok = ends.ok;
      full = ends.full;
      stopped = ends.stopped;
      rest = rest_on c.args.running.now c.raise-had.new.self c.running.inside.nodes c.compact-done.new.self c.running.inside.run c.end_call.new.self c.running.view_is c.raise-had.ensures.run c.end_call.ensures.rest;
    }
