-- What the proof of `logs::merge` needs beside the tactics.
use Rattle.fleet_entries.specs.Stored.{StoreView, store_view}
use Rattle.fleet_entries.specs.Walks.{StopsAfter, merge_files}
use Rattle.driver_model.specs.ScriptSteps.{merges}
use Rattle.fleet_entries.specs.Nodes.{NodeView}
use Rattle.std.proofs.Common.{◌≡◌, Some, ap, ◌∙◌}
use Rattle.std.specs.Prelude.{slice_get}
use Rattle.annex_base.proofs.Lists.{slice_get-within}
use Rattle.fleet_entries.specs.AtDriver.{EndsAtFull}
use Rattle.fleet_entries.specs.Fleets.{FleetView}
use Rattle.fleet_entries.proofs.Called.{called, raised_other, raised_there, seen_as}
use Rattle.fleet_entries.proofs.Growing.{had_at_most}
use Rattle.fleet_logs.proofs.Growing.{merge_grows}
use Rattle.fleet_logs.proofs.Writing.{MergesFrom, merges_go}
use Rattle.fleet_entries.proofs.Ended.{never_bundle}
use Rattle.fleet_logs.proofs.Full.{MergeMeets, merges_end}
use Rattle.fleet_entries.proofs.Full.{ends_for, rest_on}
use Rattle.fleet_entries.proofs.Starts.{call_ends, few_told, start_full}
use Rattle.fleet_logs.proofs.logs.merge.Goals as goal

pub end_call-requires-clause-had : goal.end_call-requires-clause-had
end_call-requires-clause-had g c =
    let tells : g.row.K.Denot → StoreView = λ k. store_view (g.K.Keeper.contents k) (g.K.Keeper.parts k) (g.K.Keeper.failing k) (g.K.Keeper.faults k) in
    had_at_most tells c.args.repo c.raise-had.result c.args.running.now (record { nodes = c.running.inside.nodes; run = c.running.inside.run }) c.merge-done.new.self
    (seen_as tells c.args.repo c.raise-had.result c.args.running.now c.raise-had.new.self c.running.inside.nodes c.running.inside.run c.running.view_is c.raise-had.ensures) c.requires.there
    (λ n m at_n at_m. let o = slice_get-within c.running.inside.nodes c.args.other (raised_other tells c.args.repo c.args.other c.raise-had.result c.args.running.now c.raise-had.new.self c.running.inside.nodes c.running.inside.run c.running.view_is c.raise-had.ensures c.requires.other) in
    merge_grows c.merge-done.result n m o.0.branch (c.merge-done.ensures.ok o.0 o.1 n m at_n at_m) (c.merge-done.ensures.err o.0 o.1 n m at_n at_m))

pub after_step-line-requires : goal.after_step-line-requires
after_step-line-requires g c =
    let tells : g.row.K.Denot → StoreView = λ k. store_view (g.K.Keeper.contents k) (g.K.Keeper.parts k) (g.K.Keeper.failing k) (g.K.Keeper.faults k) in
    let there = raised_there tells c.args.repo c.raise-had.result c.args.running.now c.raise-had.new.self c.running.inside.nodes c.running.inside.run c.running.view_is c.raise-had.ensures c.requires.there in
    let o = slice_get-within c.running.inside.nodes c.args.other (raised_other tells c.args.repo c.args.other c.raise-had.result c.args.running.now c.raise-had.new.self c.running.inside.nodes c.running.inside.run c.running.view_is c.raise-had.ensures c.requires.other) in
    record { bundle = never_bundle c.args.repo c.running.inside.nodes c.merge-done.new.self c.merge-done.result (λ e n m. StopsAfter (merge_files n) o.0.branch e m) (λ at n m h. h.refused) there c.merge-done.ensures.count (c.merge-done.ensures.err o.0 o.1) }

pub returns : goal.returns
returns g c =
    let tells : g.row.K.Denot → StoreView = λ k. store_view (g.K.Keeper.contents k) (g.K.Keeper.parts k) (g.K.Keeper.failing k) (g.K.Keeper.faults k) in
    let called_now : FleetView g.row.K.Denot = record { nodes = c.merge-done.new.self; run = c.running.inside.run } in
    let ends = call_ends tells (λ given d. merges c.args.repo c.args.other d) c.args.repo c.raise-had.result c.args.running.now called_now c.end_call.new.self c.after_step-line.result c.end_call.result _
    (λ q all. EndsAtFull tells q (λ given d. merges c.args.repo c.args.other d) c.args.running.now all)
    (ap (λ (f : FleetView g.row.K.Denot). f.run) c.running.view_is ∙ c.raise-had.ensures.run) (λ given d. c.drivers_only_add.ensures.merges c.args.repo c.args.other d)
    (λ q all ends. start_full tells q (λ given d. merges c.args.repo c.args.other d) c.args.running.now all ends)
    c.after_step-line.ensures.ok
    (λ all told ended.
    merges_go tells c.args.repo c.args.other c.args.running.now (record { nodes = c.running.inside.nodes; run = c.running.inside.run }) all c.merge-done.result (c.fleets_do_lines.ensures.merge tells) c.requires.there c.requires.other
    (called tells c.args.repo c.raise-had.result c.args.running.now c.raise-had.new.self c.running.inside.nodes c.merge-done.new.self c.running.inside.run all
    (MergesFrom tells c.args.other (record { nodes = c.running.inside.nodes; run = c.running.inside.run }) c.merge-done.result)
    c.running.view_is c.raise-had.ensures c.merge-done.ensures.others c.merge-done.ensures.count
    (λ n m at_n at_m. λ o at_o. record {
      ok = c.merge-done.ensures.ok o at_o n m at_n at_m;
      fault = c.merge-done.ensures.alone n m at_n at_m;
      contents = c.merge-done.ensures.contents n m at_n at_m;
      parts = c.merge-done.ensures.parts n m at_n at_m;
      calls = c.merge-done.ensures.calls o at_o n m at_n at_m;
    })
    told)
    ended (λ given d known. c.drivers_stay_sound.ensures.merges given c.args.repo c.args.other d known))
    (λ all told r e. let full = c.after_step-line.ensures.full r e in
    ends_for tells c.args.repo r (λ given d. merges c.args.repo c.args.other d) c.args.running.now all full.0
    (merges_end tells c.args.repo c.args.other c.args.running.now (record { nodes = c.running.inside.nodes; run = c.running.inside.run }) all (c.fleets_stop_at_full_histories.ensures.merge tells) c.requires.there c.requires.other
    (called tells c.args.repo c.raise-had.result c.args.running.now c.raise-had.new.self c.running.inside.nodes c.merge-done.new.self c.running.inside.run all
    (λ n m. (o : NodeView g.row.K.Denot) → slice_get c.running.inside.nodes c.args.other ≡ Some o → MergeMeets tells o.branch n m)
    c.running.view_is c.raise-had.ensures c.merge-done.ensures.others c.merge-done.ensures.count
    (λ n m at_n at_m. λ o at_o. c.merge-done.ensures.full o at_o n m at_n at_m full.1)
    told)
    (few_told tells c.args.repo c.raise-had.result called_now all told (c.after_step-line.ensures.few r e))))
    c.end_call.ensures.ok c.end_call.ensures.full c.end_call.ensures.stopped c.end_call.ensures.short in
    record {
      ok = ends.ok;
      full = ends.full;
      stopped = ends.stopped;
      rest = rest_on c.args.running.now c.raise-had.new.self c.running.inside.nodes c.merge-done.new.self c.running.inside.run c.end_call.new.self c.running.view_is c.raise-had.ensures.run c.end_call.ensures.rest;
    }
