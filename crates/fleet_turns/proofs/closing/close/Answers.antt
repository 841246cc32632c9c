-- What the proof of `closing::close` needs beside the tactics.
use Rattle.std.proofs.Common.{◌≡◌, ap, ◌∙◌}
use Rattle.fleet_entries.specs.Stored.{StoreView, store_view}
use Rattle.fleet_entries.specs.AtDriver.{ClosesNone}
use Rattle.fleet_entries.specs.Fleets.{FleetView}
use Rattle.fleet_entries.specs.Telling.{Tells}
use Rattle.driver_model.specs.ScriptSteps.{closes}
use Rattle.fleet_entries.proofs.Called.{seen_as}
use Rattle.fleet_entries.proofs.Full.{rest_on}
use Rattle.fleet_entries.proofs.Starts.{call_ends, ended_ok, start_same}
use Rattle.fleet_turns.proofs.Closes.{ClosingLaws, IsClosed, closed_within, closes_none, closes_on, has_places, may_close, no_bundle}
use Rattle.fleet_turns.proofs.closing.close.Goals as goal

pub close_end-done-requires-clause-known : goal.close_end-done-requires-clause-known
close_end-done-requires-clause-known g c =
    let tells : g.row.K.Denot → StoreView = λ k. store_view (g.K.Keeper.contents k) (g.K.Keeper.parts k) (g.K.Keeper.failing k) (g.K.Keeper.faults k) in
    λ n at. (may_close tells c.args.repo c.args.other c.raise-had.result c.args.running.now (record { nodes = c.running.inside.nodes; run = c.running.inside.run }) c.are_joined.ensures.joined
    (seen_as tells c.args.repo c.raise-had.result c.args.running.now c.raise-had.new.self c.running.inside.nodes c.running.inside.run c.running.view_is c.raise-had.ensures) c.requires.there c.requires.other c.requires.apart n at).0

pub close_end-done-requires-clause-other : goal.close_end-done-requires-clause-other
close_end-done-requires-clause-other g c =
    let tells : g.row.K.Denot → StoreView = λ k. store_view (g.K.Keeper.contents k) (g.K.Keeper.parts k) (g.K.Keeper.failing k) (g.K.Keeper.faults k) in
    λ n at. (may_close tells c.args.repo c.args.other c.raise-had.result c.args.running.now (record { nodes = c.running.inside.nodes; run = c.running.inside.run }) c.are_joined.ensures.joined
    (seen_as tells c.args.repo c.raise-had.result c.args.running.now c.raise-had.new.self c.running.inside.nodes c.running.inside.run c.running.view_is c.raise-had.ensures) c.requires.there c.requires.other c.requires.apart n at).1

pub after_step-line-requires : goal.after_step-line-requires
after_step-line-requires g c = record { bundle = no_bundle c.close_end-done.result c.close_end-done.ensures.refused }

pub end_call-requires-clause-had : goal.end_call-requires-clause-had
end_call-requires-clause-had g c =
    let tells : g.row.K.Denot → StoreView = λ k. store_view (g.K.Keeper.contents k) (g.K.Keeper.parts k) (g.K.Keeper.failing k) (g.K.Keeper.faults k) in
    closed_within tells c.args.repo c.args.other c.raise-had.result c.close_end-done.result c.args.running.now (record { nodes = c.running.inside.nodes; run = c.running.inside.run }) c.close_end-done.new.self c.carry.new.self
    (seen_as tells c.args.repo c.raise-had.result c.args.running.now c.raise-had.new.self c.running.inside.nodes c.running.inside.run c.running.view_is c.raise-had.ensures) c.requires.there
    c.close_end-done.ensures.ok c.close_end-done.ensures.err c.close_end-done.ensures.count c.carry.ensures.node

pub returns : goal.returns
returns g c =
    let tells : g.row.K.Denot → StoreView = λ k. store_view (g.K.Keeper.contents k) (g.K.Keeper.parts k) (g.K.Keeper.failing k) (g.K.Keeper.faults k) in
    let up : FleetView g.row.K.Denot = record { nodes = c.running.inside.nodes; run = c.running.inside.run } in
    let called_now : FleetView g.row.K.Denot = record { nodes = c.carry.new.self; run = c.running.inside.run } in
    let laws : ClosingLaws tells = record { closes = c.fleets_close.ensures.closes tells; places = c.fleets_close.ensures.places tells; none = c.fleets_close.ensures.none tells; few = c.runs_are_cut_where_histories_are_full.ensures.few } in
    let closed : (all : FleetView g.row.K.Denot) → Tells tells c.args.repo c.raise-had.result called_now all → IsClosed tells c.args.repo c.args.other c.raise-had.result c.close_end-done.result c.args.running.now up c.close_end-done.new.self c.carry.new.self all = λ all told. record {
      call = record {
        raises = seen_as tells c.args.repo c.raise-had.result c.args.running.now c.raise-had.new.self c.running.inside.nodes c.running.inside.run c.running.view_is c.raise-had.ensures;
        others = c.close_end-done.ensures.others;
        count = c.close_end-done.ensures.count;
        rest = c.carry.ensures.node;
        links = c.carry.ensures.links;
        others_rest = c.carry.ensures.others;
        others_links = c.carry.ensures.other_links;
        carried_count = c.carry.ensures.count;
        told = told;
      };
      holds = λ n m at_n at_m. record {
        ok = c.close_end-done.ensures.ok n m at_n at_m;
        full = c.close_end-done.ensures.full n m at_n at_m;
        lacks = c.close_end-done.ensures.lacks n m at_n at_m;
        err = c.close_end-done.ensures.err n m at_n at_m;
      };
      joined = c.are_joined.ensures.joined;
      few = c.are_joined.ensures.few;
    } in
    let ends = call_ends tells (λ given d. closes given c.args.repo c.args.other d) c.args.repo c.raise-had.result c.args.running.now called_now c.end_call.new.self c.after_step-line.result c.end_call.result _
    (λ q all. (q ≡ c.args.repo) × ClosesNone tells c.args.repo c.args.other c.args.running.now all)
    (ap (λ (f : FleetView g.row.K.Denot). f.run) c.running.view_is ∙ c.raise-had.ensures.run) (λ given d. c.drivers_only_add.ensures.closes given c.args.repo c.args.other d)
    (λ q all none. start_same tells (λ given d. closes given c.args.repo c.args.other d) c.args.running.now all (λ given d. c.drivers_only_add.ensures.closes given c.args.repo c.args.other d) none.1.run)
    c.after_step-line.ensures.ok
    (λ all told ended.
    closes_on tells laws c.args.repo c.args.other c.raise-had.result c.close_end-done.result c.args.running.now up c.close_end-done.new.self c.carry.new.self all c.requires.there c.requires.other c.requires.apart (closed all told)
    ended c.close_end-done.ensures.refused (λ given d known other. c.drivers_stay_sound.ensures.closes given c.args.repo c.args.other d known other))
    (λ all told r e. let full = c.after_step-line.ensures.full r e in
    closes_none tells laws c.args.repo c.args.other c.raise-had.result c.close_end-done.result c.args.running.now up c.close_end-done.new.self c.carry.new.self all c.requires.there c.requires.other c.requires.apart (closed all told) r full.0 full.1)
    c.end_call.ensures.ok c.end_call.ensures.full c.end_call.ensures.stopped c.end_call.ensures.short in
    record {
      ok = ends.ok;
      places = ended_ok c.end_call.result c.after_step-line.result _ _ _ c.end_call.ensures.ok c.after_step-line.ensures.ok (λ told ended.
          has_places tells laws c.args.repo c.args.other c.raise-had.result c.close_end-done.result c.args.running.now up c.close_end-done.new.self c.carry.new.self c.end_call.new.self c.requires.there c.requires.other c.requires.apart (closed c.end_call.new.self told)
          ended c.close_end-done.ensures.refused);
      full = ends.full;
      stopped = ends.stopped;
      rest = rest_on c.args.running.now c.raise-had.new.self c.running.inside.nodes c.carry.new.self c.running.inside.run c.end_call.new.self c.running.view_is c.raise-had.ensures.run c.end_call.ensures.rest;
    }
