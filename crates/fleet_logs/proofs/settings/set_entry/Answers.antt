-- What the proof of `settings::set_entry` needs beside the tactics.
use Rattle.std.proofs.Common.{◌≡◌, ◌∷◌, [], ap, ◌∙◌}
use Rattle.std.specs.Prelude.{None}
use Rattle.annex_base.specs.declared.kinds.Call.TheVariants as calls
use Rattle.fleet_entries.specs.Calls.{to_log}
use Rattle.log_lines.specs.LineText.{line_text}
use Rattle.run_data.specs.declared.entry.LogFile.TheVariants.{Of}
use Rattle.fleet_entries.specs.Logs.{stamped_by, with_lines}
use Rattle.fleet_entries.specs.Refusals.{RefusesSo}
use Rattle.fleet_entries.specs.Stored.{StoreView, store_view}
use Rattle.driver_model.specs.ScriptSteps.{sets}
use Rattle.fleet_entries.specs.AtDriver.{EndsAtFull}
use Rattle.fleet_entries.specs.Fleets.{FleetView}
use Rattle.fleet_entries.proofs.Called.{called, raised_there, seen_as}
use Rattle.fleet_entries.proofs.Growing.{had_at_most}
use Rattle.fleet_logs.proofs.Growing.{write_grows}
use Rattle.fleet_logs.proofs.Writing.{WritesFiles, one_fault, sets_go}
use Rattle.fleet_entries.proofs.Ended.{never_bundle}
use Rattle.fleet_logs.proofs.Full.{RefusesLines, refuses_lines, sets_end}
use Rattle.fleet_entries.proofs.Full.{ends_for, rest_on}
use Rattle.fleet_entries.proofs.Starts.{call_ends, few_told, start_full}
use Rattle.fleet_logs.proofs.settings.set_entry.Goals as goal

pub write_log-done-requires-clause-line : goal.write_log-done-requires-clause-line
write_log-done-requires-clause-line g c = λ n at. c.settings_are_lines.ensures c.args.kind c.args.topic _ c.args.value c.requires.topic c.requires.value

pub end_call-requires-clause-had : goal.end_call-requires-clause-had
end_call-requires-clause-had g c =
    let tells : g.row.K.Denot → StoreView = λ k. store_view (g.K.Keeper.contents k) (g.K.Keeper.parts k) (g.K.Keeper.failing k) (g.K.Keeper.faults k) in
    had_at_most tells c.args.repo c.raise-had.result c.args.running.now (record { nodes = c.running.inside.nodes; run = c.running.inside.run }) c.write_log-done.new.self
    (seen_as tells c.args.repo c.raise-had.result c.args.running.now c.raise-had.new.self c.running.inside.nodes c.running.inside.run c.running.view_is c.raise-had.ensures) c.requires.there
    (λ n m at_n at_m. write_grows c.write_log-done.result n m (Of c.args.kind) (line_text c.args.kind (stamped_by n c.args.kind None (record { topic = c.args.topic; stamp = None; value = c.args.value })) ∷ []) (c.write_log-done.ensures.ok n m at_n at_m) (c.write_log-done.ensures.err n m at_n at_m))

pub after_step-line-requires : goal.after_step-line-requires
after_step-line-requires g c =
    let tells : g.row.K.Denot → StoreView = λ k. store_view (g.K.Keeper.contents k) (g.K.Keeper.parts k) (g.K.Keeper.failing k) (g.K.Keeper.faults k) in
    let there = raised_there tells c.args.repo c.raise-had.result c.args.running.now c.raise-had.new.self c.running.inside.nodes c.running.inside.run c.running.view_is c.raise-had.ensures c.requires.there in
    record { bundle = never_bundle c.args.repo c.running.inside.nodes c.write_log-done.new.self c.write_log-done.result (λ e n m. RefusesSo e calls.PutFile n m) (λ at n m h. h) there c.write_log-done.ensures.count c.write_log-done.ensures.err }

pub returns : goal.returns
returns g c =
    let tells : g.row.K.Denot → StoreView = λ k. store_view (g.K.Keeper.contents k) (g.K.Keeper.parts k) (g.K.Keeper.failing k) (g.K.Keeper.faults k) in
    let called_now : FleetView g.row.K.Denot = record { nodes = c.write_log-done.new.self; run = c.running.inside.run } in
    let ends = call_ends tells (λ given d. sets given c.args.repo c.args.kind c.args.topic c.args.value d) c.args.repo c.raise-had.result c.args.running.now called_now c.end_call.new.self c.after_step-line.result c.end_call.result _
    (λ q all. EndsAtFull tells q (λ given d. sets given c.args.repo c.args.kind c.args.topic c.args.value d) c.args.running.now all)
    (ap (λ (f : FleetView g.row.K.Denot). f.run) c.running.view_is ∙ c.raise-had.ensures.run) (λ given d. c.drivers_only_add.ensures.sets given c.args.repo c.args.kind c.args.topic c.args.value d)
    (λ q all ends. start_full tells q (λ given d. sets given c.args.repo c.args.kind c.args.topic c.args.value d) c.args.running.now all ends)
    c.after_step-line.ensures.ok
    (λ all told ended.
    sets_go tells c.args.repo c.args.running.now (record { nodes = c.running.inside.nodes; run = c.running.inside.run }) all c.args.kind c.args.topic c.args.value c.write_log-done.result (c.fleets_do_lines.ensures.setting tells) c.requires.there
    (called tells c.args.repo c.raise-had.result c.args.running.now c.raise-had.new.self c.running.inside.nodes c.write_log-done.new.self c.running.inside.run all
    (WritesFiles tells (λ n. to_log n (Of c.args.kind) (line_text c.args.kind (stamped_by n c.args.kind None (record { topic = c.args.topic; stamp = None; value = c.args.value })) ∷ [])) (λ n m. m ≡ with_lines n m.keeper (Of c.args.kind) (line_text c.args.kind (stamped_by n c.args.kind None (record { topic = c.args.topic; stamp = None; value = c.args.value })) ∷ [])) c.write_log-done.result)
    c.running.view_is c.raise-had.ensures c.write_log-done.ensures.others c.write_log-done.ensures.count
    (λ n m at_n at_m. record {
      ok = c.write_log-done.ensures.ok n m at_n at_m;
      fault = one_fault (g.K.Keeper.failing n.keeper) c.write_log-done.result n m (c.write_log-done.ensures.err n m at_n at_m);
      contents = c.write_log-done.ensures.contents n m at_n at_m;
      parts = c.write_log-done.ensures.parts n m at_n at_m;
      calls = c.write_log-done.ensures.calls n m at_n at_m;
    })
    told)
    ended (λ given d known. c.drivers_stay_sound.ensures.sets given c.args.repo c.args.kind c.args.topic c.args.value d known c.requires.kind c.requires.topic c.requires.value))
    (λ all told r e. let full = c.after_step-line.ensures.full r e in
    ends_for tells c.args.repo r (λ given d. sets given c.args.repo c.args.kind c.args.topic c.args.value d) c.args.running.now all full.0
    (sets_end tells c.args.repo c.args.running.now (record { nodes = c.running.inside.nodes; run = c.running.inside.run }) all c.args.kind c.args.topic c.args.value (c.fleets_stop_at_full_histories.ensures.setting tells) c.requires.there
    (called tells c.args.repo c.raise-had.result c.args.running.now c.raise-had.new.self c.running.inside.nodes c.write_log-done.new.self c.running.inside.run all
    (λ n m. RefusesLines (Of c.args.kind) (line_text c.args.kind (stamped_by n c.args.kind None (record { topic = c.args.topic; stamp = None; value = c.args.value })) ∷ []) n m)
    c.running.view_is c.raise-had.ensures c.write_log-done.ensures.others c.write_log-done.ensures.count
    (λ n m at_n at_m. refuses_lines c.write_log-done.result n m (Of c.args.kind) (line_text c.args.kind (stamped_by n c.args.kind None (record { topic = c.args.topic; stamp = None; value = c.args.value })) ∷ []) full.1 (c.write_log-done.ensures.err n m at_n at_m) (c.write_log-done.ensures.full n m at_n at_m))
    told)
    (few_told tells c.args.repo c.raise-had.result called_now all told (c.after_step-line.ensures.few r e))))
    c.end_call.ensures.ok c.end_call.ensures.full c.end_call.ensures.stopped c.end_call.ensures.short in
    record {
      ok = ends.ok;
      full = ends.full;
      stopped = ends.stopped;
      rest = rest_on c.args.running.now c.raise-had.new.self c.running.inside.nodes c.write_log-done.new.self c.running.inside.run c.end_call.new.self c.running.view_is c.raise-had.ensures.run c.end_call.ensures.rest;
    }
