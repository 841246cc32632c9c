-- What the proof of `settling::turn` needs beside the tactics.
use Rattle.std.proofs.Common.{ap, length, ◌∙◌}
use Rattle.fleet_entries.specs.Stored.{StoreView, store_view}
use Rattle.fleet_entries.specs.AtDriver.{EndsAtFull}
use Rattle.fleet_entries.specs.Telling.{Tells}
use Rattle.driver_model.specs.Turning.{turn}
use Rattle.fleet_entries.specs.Fleets.{FleetView}
use Rattle.fleet_entries.proofs.Called.{seen_as}
use Rattle.fleet_turns.proofs.Quiet.{rests_on}
use Rattle.fleet_turns.proofs.Turning.{IsTurned, had_within, turns_on}
use Rattle.fleet_entries.proofs.Starts.{call_ends, few_told, start_full}
use Rattle.fleet_entries.proofs.Full.{ends_for, rest_on}
use Rattle.fleet_turns.proofs.Ending.{turn_ends}
use Rattle.fleet_turns.proofs.settling.turn.Goals as goal

pub end_call-requires-clause-had : goal.end_call-requires-clause-had
end_call-requires-clause-had g c =
    let tells : g.row.K.Denot → StoreView = λ k. store_view (g.K.Keeper.contents k) (g.K.Keeper.parts k) (g.K.Keeper.failing k) (g.K.Keeper.faults k) in
    had_within tells c.args.repo c.raise-had.result c.turn-turn.result c.args.running.now (record { nodes = c.running.inside.nodes; run = c.running.inside.run }) c.turn-turn.new.self c.carry.new.self
    (seen_as tells c.args.repo c.raise-had.result c.args.running.now c.raise-had.new.self c.running.inside.nodes c.running.inside.run c.running.view_is c.raise-had.ensures) c.requires.there
    c.turn-turn.ensures.moved c.turn-turn.ensures.stays c.turn-turn.ensures.count c.carry.ensures.node

pub returns : goal.returns
returns g c =
    let tells : g.row.K.Denot → StoreView = λ k. store_view (g.K.Keeper.contents k) (g.K.Keeper.parts k) (g.K.Keeper.failing k) (g.K.Keeper.faults k) in
    let up : FleetView g.row.K.Denot = record { nodes = c.running.inside.nodes; run = c.running.inside.run } in
    let called_now : FleetView g.row.K.Denot = record { nodes = c.carry.new.self; run = c.running.inside.run } in
    let turned : (all : FleetView g.row.K.Denot) → Tells tells c.args.repo c.raise-had.result called_now all → IsTurned tells c.args.repo c.raise-had.result c.turn-turn.result c.args.running.now up c.turn-turn.new.self c.carry.new.self all = λ all told. record {
      turn = record {
        raises = seen_as tells c.args.repo c.raise-had.result c.args.running.now c.raise-had.new.self c.running.inside.nodes c.running.inside.run c.running.view_is c.raise-had.ensures;
        moved = c.turn-turn.ensures.moved;
        steps = c.turn-turn.ensures.step;
        idle = c.turn-turn.ensures.idle;
        stays = c.turn-turn.ensures.stays;
        unasked = c.turn-turn.ensures.unasked;
        small = c.turn-turn.ensures.small;
        others = c.turn-turn.ensures.others;
        count = c.turn-turn.ensures.count;
      };
      whole = c.see.ensures;
      rest = c.carry.ensures.node;
      links = c.carry.ensures.links;
      others_rest = c.carry.ensures.others;
      others_links = c.carry.ensures.other_links;
      carried_count = c.carry.ensures.count;
      told = told;
    } in
    let ends = call_ends tells (λ given d. turn given c.args.repo d) c.args.repo c.raise-had.result c.args.running.now called_now c.end_call.new.self c.after_turn-line.result c.end_call.result _
    (λ q all. EndsAtFull tells q (λ given d. turn given c.args.repo d) c.args.running.now all)
    (ap (λ (f : FleetView g.row.K.Denot). f.run) c.running.view_is ∙ c.raise-had.ensures.run) (λ given d. c.drivers_only_add.ensures.turn given c.args.repo d)
    (λ q all ends. start_full tells q (λ given d. turn given c.args.repo d) c.args.running.now all ends)
    c.after_turn-line.ensures.ok
    (λ all told came.
    turns_on (record { moved = c.fleets_take_turns.ensures.moved; idle = c.fleets_take_turns.ensures.idle }) tells c.args.repo c.raise-had.result c.turn-turn.result c.args.running.now
    up c.turn-turn.new.self c.carry.new.self all c.requires.there (turned all told) came)
    (λ all told r e. let full = c.after_turn-line.ensures.full r e in
    ends_for tells c.args.repo r (λ given d. turn given c.args.repo d) c.args.running.now all full.0
    (turn_ends tells c.args.repo c.raise-had.result c.turn-turn.result c.args.running.now up c.turn-turn.new.self c.carry.new.self all (c.fleets_stop_at_full_histories.ensures.turn tells) c.requires.there (turned all told) full.1
    (λ n m at_n at_m. record { full = c.turn-turn.ensures.full n m at_n at_m full.1; ready = c.turn-turn.ensures.ready n m at_n at_m full.1 })
    (few_told tells c.args.repo c.raise-had.result called_now all told (c.after_turn-line.ensures.few r e))))
    c.end_call.ensures.ok c.end_call.ensures.full c.end_call.ensures.stopped c.end_call.ensures.short in
    record {
      ok = ends.ok;
      full = ends.full;
      stopped = ends.stopped;
      rest = rest_on c.args.running.now c.raise-had.new.self c.running.inside.nodes c.carry.new.self c.running.inside.run c.end_call.new.self c.running.view_is c.raise-had.ensures.run c.end_call.ensures.rest;
      count = ap length c.end_call.ensures.nodes ∙ (c.carry.ensures.count ∙ (c.turn-turn.ensures.count ∙ (ap (λ (f : FleetView g.row.K.Denot). length f.nodes) c.running.view_is ∙ c.raise-had.ensures.count)));
    }

pub returns-then-is_still-clause-ok : goal.returns-then-is_still-clause-ok
returns-then-is_still-clause-ok g c =
    let tells : g.row.K.Denot → StoreView = λ k. store_view (g.K.Keeper.contents k) (g.K.Keeper.parts k) (g.K.Keeper.failing k) (g.K.Keeper.faults k) in
    rests_on c.fleets_rest.ensures tells c.args.repo c.raise-had.result c.turn-turn.result c.args.running.now (record { nodes = c.running.inside.nodes; run = c.running.inside.run }) c.turn-turn.new.self c.requires.there
    (record {
      turn = record {
        raises = seen_as tells c.args.repo c.raise-had.result c.args.running.now c.raise-had.new.self c.running.inside.nodes c.running.inside.run c.running.view_is c.raise-had.ensures;
        moved = c.turn-turn.ensures.moved;
        steps = c.turn-turn.ensures.step;
        idle = c.turn-turn.ensures.idle;
        stays = c.turn-turn.ensures.stays;
        unasked = c.turn-turn.ensures.unasked;
        small = c.turn-turn.ensures.small;
        others = c.turn-turn.ensures.others;
        count = c.turn-turn.ensures.count;
      };
      is_idle = c.is_still.ensures.turn c.if-is_still.true;
      kept = λ n at. c.has_frames-frames.ensures.kept n at (c.is_still.ensures.frames c.if-is_still.true);
      joined = c.has_frames-frames.ensures.joined;
    })
