-- What the proof of `logs::write` needs beside the tactics.
use Rattle.std.proofs.Common.{◌≡◌, ◌∷◌, [], ap, ◌∙◌, refl}
use Rattle.annex_base.specs.declared.kinds.Call.TheVariants as calls
use Rattle.run_data.specs.Files.{file_of}
use Rattle.fleet_entries.specs.Calls.{to_log}
use Rattle.fleet_entries.specs.Logs.{with_lines}
use Rattle.fleet_entries.specs.Refusals.{RefusesSo}
use Rattle.fleet_entries.specs.Stored.{StoreView, store_view}
use Rattle.driver_model.specs.ScriptSteps.{writes}
use Rattle.fleet_entries.specs.AtDriver.{EndsAtFull}
use Rattle.fleet_entries.specs.Fleets.{FleetView}
use Rattle.fleet_entries.proofs.Called.{called, raised_there, seen_as}
use Rattle.fleet_entries.proofs.Growing.{had_at_most}
use Rattle.fleet_logs.proofs.Growing.{write_grows}
use Rattle.fleet_logs.proofs.Writing.{WritesFiles, one_fault, writes_go_so}
use Rattle.fleet_entries.proofs.Ended.{never_bundle}
use Rattle.fleet_logs.proofs.Full.{RefusesLines, refuses_lines, writes_end_so}
use Rattle.fleet_entries.proofs.Full.{ends_for, rest_on, rest_where_same}
use Rattle.fleet_entries.proofs.Starts.{always_err, call_ends, few_told, start_full, start_same}
use Rattle.fleet_logs.proofs.logs.write.Goals as goal

pub end_call-requires-clause-had : goal.end_call-requires-clause-had
end_call-requires-clause-had g c =
    let tells : g.row.K.Denot → StoreView = λ k. store_view (g.K.Keeper.contents k) (g.K.Keeper.parts k) (g.K.Keeper.failing k) (g.K.Keeper.faults k) in
    had_at_most tells c.args.repo c.raise-had.result c.args.running.now (record { nodes = c.running-2.inside.nodes; run = c.running-2.inside.run }) c.write_raw-done.new.self
    (seen_as tells c.args.repo c.raise-had.result c.args.running.now c.raise-had.new.self c.running-2.inside.nodes c.running-2.inside.run c.running-2.view_is c.raise-had.ensures) c.requires.there
    (λ n m at_n at_m. write_grows c.write_raw-done.result n m (file_of c.bytes.result.now) (c.bytes-2.result.now ∷ []) (c.write_raw-done.ensures.ok n m at_n at_m) (c.write_raw-done.ensures.err n m at_n at_m))

pub after_step-line-requires : goal.after_step-line-requires
after_step-line-requires g c = record {
  bundle = never_bundle c.args.repo c.running-2.inside.nodes c.write_raw-done.new.self c.write_raw-done.result (λ e n m. RefusesSo e calls.PutFile n m) (λ at n m h. h)
      (raised_there (λ k. store_view (g.K.Keeper.contents k) (g.K.Keeper.parts k) (g.K.Keeper.failing k) (g.K.Keeper.faults k)) c.args.repo c.raise-had.result c.args.running.now c.raise-had.new.self c.running-2.inside.nodes c.running-2.inside.run c.running-2.view_is c.raise-had.ensures c.requires.there)
      c.write_raw-done.ensures.count c.write_raw-done.ensures.err;
}

pub returns : goal.returns
returns g c =
    let tells : g.row.K.Denot → StoreView = λ k. store_view (g.K.Keeper.contents k) (g.K.Keeper.parts k) (g.K.Keeper.failing k) (g.K.Keeper.faults k) in
    let called_now : FleetView g.row.K.Denot = record { nodes = c.write_raw-done.new.self; run = c.running-2.inside.run } in
    let ends = call_ends tells (λ given d. writes c.args.repo c.args.file.now c.args.line.now d) c.args.repo c.raise-had.result c.args.running.now called_now c.end_call.new.self c.after_step-line.result c.end_call.result _
    (λ q all. EndsAtFull tells q (λ given d. writes c.args.repo c.args.file.now c.args.line.now d) c.args.running.now all)
    (ap (λ (f : FleetView g.row.K.Denot). f.run) c.running-2.view_is ∙ c.raise-had.ensures.run) (λ given d. c.drivers_only_add.ensures.writes c.args.repo c.args.file.now c.args.line.now d)
    (λ q all ends. start_full tells q (λ given d. writes c.args.repo c.args.file.now c.args.line.now d) c.args.running.now all ends)
    c.after_step-line.ensures.ok
    (λ all told ended.
    writes_go_so tells c.args.repo c.args.running.now (record { nodes = c.running-2.inside.nodes; run = c.running-2.inside.run }) all
    c.args.file.now (file_of c.bytes.result.now) c.args.line.now c.bytes-2.result.now c.write_raw-done.result
    (ap file_of (c.bytes.ensures ∙ c.in_ok-path.ensures.value) ∙ c.files_have_their_paths.ensures.file c.args.file.now c.requires.file c.requires.kind) c.bytes-2.ensures
    (c.fleets_do_lines.ensures.line tells) c.requires.there
    (called tells c.args.repo c.raise-had.result c.args.running.now c.raise-had.new.self c.running-2.inside.nodes c.write_raw-done.new.self c.running-2.inside.run all
    (WritesFiles tells (λ n. to_log n (file_of c.bytes.result.now) (c.bytes-2.result.now ∷ [])) (λ n m. m ≡ with_lines n m.keeper (file_of c.bytes.result.now) (c.bytes-2.result.now ∷ [])) c.write_raw-done.result)
    c.running-2.view_is c.raise-had.ensures c.write_raw-done.ensures.others c.write_raw-done.ensures.count
    (λ n m at_n at_m. record {
      ok = c.write_raw-done.ensures.ok n m at_n at_m;
      fault = one_fault (g.K.Keeper.failing n.keeper) c.write_raw-done.result n m (c.write_raw-done.ensures.err n m at_n at_m);
      contents = c.write_raw-done.ensures.contents n m at_n at_m;
      parts = c.write_raw-done.ensures.parts n m at_n at_m;
      calls = c.write_raw-done.ensures.calls n m at_n at_m;
    })
    told)
    ended (λ given d known. c.drivers_stay_sound.ensures.writes given c.args.repo c.args.file.now c.args.line.now d known c.requires.file c.requires.kind c.requires.line))
    (λ all told r e. let full = c.after_step-line.ensures.full r e in
    ends_for tells c.args.repo r (λ given d. writes c.args.repo c.args.file.now c.args.line.now d) c.args.running.now all full.0
    (writes_end_so tells c.args.repo c.args.running.now (record { nodes = c.running-2.inside.nodes; run = c.running-2.inside.run }) all
    c.args.file.now (file_of c.bytes.result.now) c.args.line.now c.bytes-2.result.now
    (ap file_of (c.bytes.ensures ∙ c.in_ok-path.ensures.value) ∙ c.files_have_their_paths.ensures.file c.args.file.now c.requires.file c.requires.kind) c.bytes-2.ensures
    (c.fleets_stop_at_full_histories.ensures.line tells) c.requires.there
    (called tells c.args.repo c.raise-had.result c.args.running.now c.raise-had.new.self c.running-2.inside.nodes c.write_raw-done.new.self c.running-2.inside.run all
    (RefusesLines (file_of c.bytes.result.now) (c.bytes-2.result.now ∷ []))
    c.running-2.view_is c.raise-had.ensures c.write_raw-done.ensures.others c.write_raw-done.ensures.count
    (λ n m at_n at_m. refuses_lines c.write_raw-done.result n m (file_of c.bytes.result.now) (c.bytes-2.result.now ∷ []) full.1 (c.write_raw-done.ensures.err n m at_n at_m) (c.write_raw-done.ensures.full n m at_n at_m))
    told)
    (few_told tells c.args.repo c.raise-had.result called_now all told (c.after_step-line.ensures.few r e))))
    c.end_call.ensures.ok c.end_call.ensures.full c.end_call.ensures.stopped c.end_call.ensures.short in
    record {
      ok = ends.ok;
      full = ends.full;
      stopped = ends.stopped;
      rest = rest_on c.args.running.now c.raise-had.new.self c.running-2.inside.nodes c.write_raw-done.new.self c.running-2.inside.run c.end_call.new.self c.running-2.view_is c.raise-had.ensures.run c.end_call.ensures.rest;
    }

pub returns-in_err-path-clause-stopped : goal.returns-in_err-path-clause-stopped
returns-in_err-path-clause-stopped g c =
    let tells : g.row.K.Denot → StoreView = λ k. store_view (g.K.Keeper.contents k) (g.K.Keeper.parts k) (g.K.Keeper.failing k) (g.K.Keeper.faults k) in
    always_err _ _ (start_same tells (λ given d. writes c.args.repo c.args.file.now c.args.line.now d) c.args.running.now c.args.running.now (λ given d. c.drivers_only_add.ensures.writes c.args.repo c.args.file.now c.args.line.now d) refl)

pub returns-in_err-path-clause-rest : goal.returns-in_err-path-clause-rest
returns-in_err-path-clause-rest g c = rest_where_same c.args.running.now c.args.running.now refl
