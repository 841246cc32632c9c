-- What the proof of `contents::place` needs beside the tactics.
use Rattle.std.proofs.Common.{◌∙◌, ◌⊎◌, ap, refl, ◌≡◌}
use Rattle.fleet_entries.specs.Calls.{StopsAt, to_place}
use Rattle.fleet_entries.specs.Stored.{StoreView, store_view}
use Rattle.fleet_entries.specs.AtDriver.{EndsAtFull, WaitsForRoom}
use Rattle.fleet_entries.specs.Fleets.{FleetView}
use Rattle.driver_model.specs.ScriptSteps.{has}
use Rattle.fleet_entries.proofs.Called.{called, raised_there, seen_as}
use Rattle.fleet_keys.proofs.Placing.{PlacesContent, content_fits, has_goes_so}
use Rattle.fleet_entries.proofs.Growing.{had_at_most}
use Rattle.fleet_keys.proofs.Growing.{place_grows}
use Rattle.fleet_entries.proofs.Ended.{never_bundle}
use Rattle.fleet_keys.proofs.FullContents.{PlaceMeets, had_room, has_ends_so}
use Rattle.fleet_keys.proofs.Unasked.{HadRoom, IsUnasked, has_room}
use Rattle.fleet_entries.proofs.Full.{rest_on, rest_where_same}
use Rattle.fleet_entries.proofs.Starts.{always_err, call_ends, ended_ok, few_told, start_same, start_waits}
use Rattle.fleet_keys.proofs.contents.place.Goals as goal

pub end_call-requires-clause-had : goal.end_call-requires-clause-had
end_call-requires-clause-had g c =
    let tells : g.row.K.Denot → StoreView = λ k. store_view (g.K.Keeper.contents k) (g.K.Keeper.parts k) (g.K.Keeper.failing k) (g.K.Keeper.faults k) in
    had_at_most tells c.args.repo c.raise-had.result c.args.running.now (record { nodes = c.running-2.inside.nodes; run = c.running-2.inside.run }) c.place-done.new.self
    (seen_as tells c.args.repo c.raise-had.result c.args.running.now c.raise-had.new.self c.running-2.inside.nodes c.running-2.inside.run c.running-2.view_is c.raise-had.ensures) c.requires.there
    (λ n m at_n at_m. place_grows tells c.args.key.now c.deref.result.now c.place-done.result n m (record {
      placed = c.place-done.ensures.ok n m at_n at_m;
      by = c.place-done.ensures.done n m at_n at_m;
      stops = c.place-done.ensures.stops n m at_n at_m;
    }))

pub after_step-line-requires : goal.after_step-line-requires
after_step-line-requires g c =
    let tells : g.row.K.Denot → StoreView = λ k. store_view (g.K.Keeper.contents k) (g.K.Keeper.parts k) (g.K.Keeper.failing k) (g.K.Keeper.faults k) in
    let there = raised_there tells c.args.repo c.raise-had.result c.args.running.now c.raise-had.new.self c.running-2.inside.nodes c.running-2.inside.run c.running-2.view_is c.raise-had.ensures c.requires.there in
    record { bundle = never_bundle c.args.repo c.running-2.inside.nodes c.place-done.new.self c.place-done.result (λ e n m. StopsAt to_place c.args.key.now c.deref.result.now (g.K.Keeper.contents n.keeper) (g.K.Keeper.contents m.keeper) (g.K.Keeper.parts n.keeper) (g.K.Keeper.parts m.keeper) (g.K.Keeper.failing n.keeper) (g.K.Keeper.failing m.keeper) e n m) (λ at n m h. h.refused) there c.place-done.ensures.count c.place-done.ensures.stops }

pub returns : goal.returns
returns g c =
    let tells : g.row.K.Denot → StoreView = λ k. store_view (g.K.Keeper.contents k) (g.K.Keeper.parts k) (g.K.Keeper.failing k) (g.K.Keeper.faults k) in
    let called_now : FleetView g.row.K.Denot = record { nodes = c.place-done.new.self; run = c.running-2.inside.run } in
    let ends = call_ends tells (λ given d. has given c.args.repo c.args.key.now c.args.content.now d) c.args.repo c.raise-had.result c.args.running.now called_now c.end_call.new.self c.after_step-line.result c.end_call.result _
    (λ q all. EndsAtFull tells q (λ given d. has given c.args.repo c.args.key.now c.args.content.now d) c.args.running.now all ⊎ ((q ≡ c.args.repo) × WaitsForRoom tells c.args.repo (λ given d. has given c.args.repo c.args.key.now c.args.content.now d) c.args.running.now all))
    (ap (λ (f : FleetView g.row.K.Denot). f.run) c.running-2.view_is ∙ c.raise-had.ensures.run) (λ given d. c.drivers_only_add.ensures.has given c.args.repo c.args.key.now c.args.content.now d)
    (λ q all ends. start_waits tells q c.args.repo (λ given d. has given c.args.repo c.args.key.now c.args.content.now d) c.args.running.now all (λ given d. c.drivers_only_add.ensures.has given c.args.repo c.args.key.now c.args.content.now d) ends)
    c.after_step-line.ensures.ok
    (λ all told ended.
    has_goes_so tells c.args.repo c.args.running.now (record { nodes = c.running-2.inside.nodes; run = c.running-2.inside.run }) all c.args.key.now c.args.content.now c.deref.result.now c.place-done.result (c.deref.ensures.value ∙ c.in_ok-bytes.ensures) (c.fleets_do_lines.ensures.content tells) (c.fleets_do_lines.ensures.content_stops tells) c.requires.there
    (called tells c.args.repo c.raise-had.result c.args.running.now c.raise-had.new.self c.running-2.inside.nodes c.place-done.new.self c.running-2.inside.run all
    (PlacesContent tells c.args.key.now c.deref.result.now c.place-done.result)
    c.running-2.view_is c.raise-had.ensures c.place-done.ensures.others c.place-done.ensures.count
    (λ n m at_n at_m. record {
      placed = c.place-done.ensures.ok n m at_n at_m;
      by = c.place-done.ensures.done n m at_n at_m;
      stops = c.place-done.ensures.stops n m at_n at_m;
    })
    told)
    c.requires.small ended (λ given d known. c.drivers_stay_sound.ensures.has given c.args.repo c.args.key.now c.args.content.now d known (c.requires.key, content_fits c.args.key.now c.args.content.now c.requires.right)))
    (λ all told r e. let full = c.after_step-line.ensures.full r e in
    has_ends_so tells c.args.repo r c.args.running.now (record { nodes = c.running-2.inside.nodes; run = c.running-2.inside.run }) all c.args.key.now c.args.content.now c.deref.result.now full.0 (c.deref.ensures.value ∙ c.in_ok-bytes.ensures)
    (c.fleets_stop_at_full_histories.ensures.asked tells) (c.fleets_stop_at_full_histories.ensures.content tells) c.requires.there
    (called tells c.args.repo c.raise-had.result c.args.running.now c.raise-had.new.self c.running-2.inside.nodes c.place-done.new.self c.running-2.inside.run all
    (λ n m. IsUnasked n m ⊎ PlaceMeets tells c.args.key.now c.deref.result.now n m)
    c.running-2.view_is c.raise-had.ensures c.place-done.ensures.others c.place-done.ensures.count
    (λ n m at_n at_m. c.place-done.ensures.full n m at_n at_m full.1)
    told)
    (few_told tells c.args.repo c.raise-had.result called_now all told (c.after_step-line.ensures.few r e)) (c.requires.key, content_fits c.args.key.now c.args.content.now c.requires.right) c.requires.small)
    c.end_call.ensures.ok c.end_call.ensures.full c.end_call.ensures.stopped c.end_call.ensures.short in
    record {
      ok = ends.ok;
      full = ends.full;
      room = ended_ok c.end_call.result c.after_step-line.result _ _ _ c.end_call.ensures.ok c.after_step-line.ensures.ok (λ told ended.
          has_room tells c.args.repo c.args.running.now (record { nodes = c.running-2.inside.nodes; run = c.running-2.inside.run }) c.end_call.new.self c.requires.there
          (called tells c.args.repo c.raise-had.result c.args.running.now c.raise-had.new.self c.running-2.inside.nodes c.place-done.new.self c.running-2.inside.run c.end_call.new.self
          HadRoom
          c.running-2.view_is c.raise-had.ensures c.place-done.ensures.others c.place-done.ensures.count
          (λ n m at_n at_m. had_room tells c.args.key.now c.deref.result.now c.place-done.result n m ended (c.place-done.ensures.room n m at_n at_m) (record {
            placed = c.place-done.ensures.ok n m at_n at_m;
            by = c.place-done.ensures.done n m at_n at_m;
            stops = c.place-done.ensures.stops n m at_n at_m;
          }))
          told));
      stopped = ends.stopped;
      rest = rest_on c.args.running.now c.raise-had.new.self c.running-2.inside.nodes c.place-done.new.self c.running-2.inside.run c.end_call.new.self c.running-2.view_is c.raise-had.ensures.run c.end_call.ensures.rest;
    }

pub returns-in_err-bytes-clause-stopped : goal.returns-in_err-bytes-clause-stopped
returns-in_err-bytes-clause-stopped g c =
    let tells : g.row.K.Denot → StoreView = λ k. store_view (g.K.Keeper.contents k) (g.K.Keeper.parts k) (g.K.Keeper.failing k) (g.K.Keeper.faults k) in
    always_err _ _ (start_same tells (λ given d. has given c.args.repo c.args.key.now c.args.content.now d) c.args.running.now c.args.running.now (λ given d. c.drivers_only_add.ensures.has given c.args.repo c.args.key.now c.args.content.now d) refl)

pub returns-in_err-bytes-clause-rest : goal.returns-in_err-bytes-clause-rest
returns-in_err-bytes-clause-rest g c = rest_where_same c.args.running.now c.args.running.now refl
