-- What the proof of `contents::place_part` needs beside the tactics.
use Rattle.std.proofs.Common.{◌∙◌, ap, refl, ◌≡◌}
use Rattle.fleet_entries.specs.Placing.{StopsBefore}
use Rattle.fleet_entries.specs.Stored.{StoreView, store_view}
use Rattle.fleet_entries.specs.AtDriver.{WaitsForRoom}
use Rattle.fleet_entries.specs.Fleets.{FleetView}
use Rattle.driver_model.specs.ScriptSteps.{sets_part}
use Rattle.fleet_entries.proofs.Called.{called, raised_there, seen_as}
use Rattle.fleet_keys.proofs.PartPlacing.{PlacesPart, not_asked, part_ends, part_goes_so, part_had_room}
use Rattle.fleet_entries.proofs.Growing.{had_at_most}
use Rattle.fleet_keys.proofs.Growing.{part_grows}
use Rattle.fleet_entries.proofs.Ended.{never_bundle}
use Rattle.fleet_keys.proofs.Unasked.{HadRoom, IsUnasked, has_room}
use Rattle.fleet_entries.proofs.Full.{rest_on, rest_where_same}
use Rattle.fleet_entries.proofs.Starts.{always_err, call_ends, ended_ok, few_told, start_same}
use Rattle.fleet_keys.proofs.contents.place_part.Goals as goal

pub end_call-requires-clause-had : goal.end_call-requires-clause-had
end_call-requires-clause-had g c =
    let tells : g.row.K.Denot → StoreView = λ k. store_view (g.K.Keeper.contents k) (g.K.Keeper.parts k) (g.K.Keeper.failing k) (g.K.Keeper.faults k) in
    had_at_most tells c.args.repo c.raise-had.result c.args.running.now (record { nodes = c.running-2.inside.nodes; run = c.running-2.inside.run }) c.place_part-done.new.self
    (seen_as tells c.args.repo c.raise-had.result c.args.running.now c.raise-had.new.self c.running-2.inside.nodes c.running-2.inside.run c.running-2.view_is c.raise-had.ensures) c.requires.there
    (λ n m at_n at_m. part_grows tells c.args.key.now c.deref.result.now c.place_part-done.result n m (record {
      node = c.place_part-done.ensures.ok n m at_n at_m;
      contents = c.place_part-done.ensures.contents n m at_n at_m;
      by = c.place_part-done.ensures.done n m at_n at_m;
      before = c.place_part-done.ensures.err n m at_n at_m;
      stops = c.place_part-done.ensures.stops n m at_n at_m;
    }))

pub after_step-line-requires : goal.after_step-line-requires
after_step-line-requires g c =
    let tells : g.row.K.Denot → StoreView = λ k. store_view (g.K.Keeper.contents k) (g.K.Keeper.parts k) (g.K.Keeper.failing k) (g.K.Keeper.faults k) in
    let there = raised_there tells c.args.repo c.raise-had.result c.args.running.now c.raise-had.new.self c.running-2.inside.nodes c.running-2.inside.run c.running-2.view_is c.raise-had.ensures c.requires.there in
    record { bundle = never_bundle c.args.repo c.running-2.inside.nodes c.place_part-done.new.self c.place_part-done.result (λ e n m. StopsBefore e n m) (λ at n m h. h.refused) there c.place_part-done.ensures.count c.place_part-done.ensures.err }

pub returns : goal.returns
returns g c =
    let tells : g.row.K.Denot → StoreView = λ k. store_view (g.K.Keeper.contents k) (g.K.Keeper.parts k) (g.K.Keeper.failing k) (g.K.Keeper.faults k) in
    let called_now : FleetView g.row.K.Denot = record { nodes = c.place_part-done.new.self; run = c.running-2.inside.run } in
    let ends = call_ends tells (λ given d. sets_part given c.args.repo c.args.key.now c.args.content.now d) c.args.repo c.raise-had.result c.args.running.now called_now c.end_call.new.self c.after_step-line.result c.end_call.result _
    (λ q all. (q ≡ c.args.repo) × WaitsForRoom tells c.args.repo (λ given d. sets_part given c.args.repo c.args.key.now c.args.content.now d) c.args.running.now all)
    (ap (λ (f : FleetView g.row.K.Denot). f.run) c.running-2.view_is ∙ c.raise-had.ensures.run) (λ given d. c.drivers_only_add.ensures.part given c.args.repo c.args.key.now c.args.content.now d)
    (λ q all waits. start_same tells (λ given d. sets_part given c.args.repo c.args.key.now c.args.content.now d) c.args.running.now all (λ given d. c.drivers_only_add.ensures.part given c.args.repo c.args.key.now c.args.content.now d) waits.1.run)
    c.after_step-line.ensures.ok
    (λ all told ended.
    part_goes_so tells c.args.repo c.args.running.now (record { nodes = c.running-2.inside.nodes; run = c.running-2.inside.run }) all c.args.key.now c.args.content.now c.deref.result.now c.place_part-done.result (c.deref.ensures.value ∙ c.in_ok-bytes.ensures) (c.fleets_do_lines.ensures.part tells) (c.fleets_do_lines.ensures.part_stops tells) c.requires.there
    (called tells c.args.repo c.raise-had.result c.args.running.now c.raise-had.new.self c.running-2.inside.nodes c.place_part-done.new.self c.running-2.inside.run all
    (PlacesPart tells c.args.key.now c.deref.result.now c.place_part-done.result)
    c.running-2.view_is c.raise-had.ensures c.place_part-done.ensures.others c.place_part-done.ensures.count
    (λ n m at_n at_m. record {
      node = c.place_part-done.ensures.ok n m at_n at_m;
      contents = c.place_part-done.ensures.contents n m at_n at_m;
      by = c.place_part-done.ensures.done n m at_n at_m;
      before = c.place_part-done.ensures.err n m at_n at_m;
      stops = c.place_part-done.ensures.stops n m at_n at_m;
    })
    told)
    c.requires.small ended (λ given d known. c.drivers_stay_sound.ensures.part given c.args.repo c.args.key.now c.args.content.now d known))
    (λ all told r e. let full = c.after_step-line.ensures.full r e in
    part_ends tells c.args.repo r c.args.running.now (record { nodes = c.running-2.inside.nodes; run = c.running-2.inside.run }) all c.args.key.now c.args.content.now full.0
    (c.fleets_stop_at_full_histories.ensures.part tells) c.requires.there
    (called tells c.args.repo c.raise-had.result c.args.running.now c.raise-had.new.self c.running-2.inside.nodes c.place_part-done.new.self c.running-2.inside.run all
    IsUnasked
    c.running-2.view_is c.raise-had.ensures c.place_part-done.ensures.others c.place_part-done.ensures.count
    (λ n m at_n at_m. not_asked c.place_part-done.result n m (c.place_part-done.ensures.err n m at_n at_m) full.1)
    told)
    (few_told tells c.args.repo c.raise-had.result called_now all told (c.after_step-line.ensures.few r e)))
    c.end_call.ensures.ok c.end_call.ensures.full c.end_call.ensures.stopped c.end_call.ensures.short in
    record {
      ok = ends.ok;
      full = ends.full;
      room = ended_ok c.end_call.result c.after_step-line.result _ _ _ c.end_call.ensures.ok c.after_step-line.ensures.ok (λ told ended.
          has_room tells c.args.repo c.args.running.now (record { nodes = c.running-2.inside.nodes; run = c.running-2.inside.run }) c.end_call.new.self c.requires.there
          (called tells c.args.repo c.raise-had.result c.args.running.now c.raise-had.new.self c.running-2.inside.nodes c.place_part-done.new.self c.running-2.inside.run c.end_call.new.self
          HadRoom
          c.running-2.view_is c.raise-had.ensures c.place_part-done.ensures.others c.place_part-done.ensures.count
          (λ n m at_n at_m. part_had_room tells c.args.key.now c.deref.result.now c.place_part-done.result n m ended (c.place_part-done.ensures.room n m at_n at_m) (record {
            node = c.place_part-done.ensures.ok n m at_n at_m;
            contents = c.place_part-done.ensures.contents n m at_n at_m;
            by = c.place_part-done.ensures.done n m at_n at_m;
            before = c.place_part-done.ensures.err n m at_n at_m;
            stops = c.place_part-done.ensures.stops n m at_n at_m;
          }))
          told));
      stopped = ends.stopped;
      rest = rest_on c.args.running.now c.raise-had.new.self c.running-2.inside.nodes c.place_part-done.new.self c.running-2.inside.run c.end_call.new.self c.running-2.view_is c.raise-had.ensures.run c.end_call.ensures.rest;
    }

pub returns-in_err-bytes-clause-stopped : goal.returns-in_err-bytes-clause-stopped
returns-in_err-bytes-clause-stopped g c =
    let tells : g.row.K.Denot → StoreView = λ k. store_view (g.K.Keeper.contents k) (g.K.Keeper.parts k) (g.K.Keeper.failing k) (g.K.Keeper.faults k) in
    always_err _ _ (start_same tells (λ given d. sets_part given c.args.repo c.args.key.now c.args.content.now d) c.args.running.now c.args.running.now (λ given d. c.drivers_only_add.ensures.part given c.args.repo c.args.key.now c.args.content.now d) refl)

pub returns-in_err-bytes-clause-rest : goal.returns-in_err-bytes-clause-rest
returns-in_err-bytes-clause-rest g c = rest_where_same c.args.running.now c.args.running.now refl
