-- What the proof of `waiting::wait` needs beside the tactics.
use Rattle.std.proofs.Common.{ℕ, ◌+◌, ◌<◌, ◌^◌, subst, sym, ap, ◌∙◌}
use Rattle.fleet_entries.specs.Stored.{StoreView, store_view}
use Rattle.driver_model.specs.ScriptSteps.{waits}
use Rattle.fleet_entries.specs.Fleets.{FleetView}
use Rattle.fleet_turns.proofs.Time.{waits_go_so}
use Rattle.fleet_entries.proofs.Driving.{one_is_counted}
use Rattle.fleet_entries.proofs.Full.{ok_or_err, rest_of, rest_where_same}
use Rattle.fleet_entries.proofs.Starts.{always_err, start_same}
use Rattle.fleet_turns.proofs.waiting.wait.Goals as goal

pub returns : goal.returns
returns g c =
    let tells : g.row.K.Denot → StoreView = λ k. store_view (g.K.Keeper.contents k) (g.K.Keeper.parts k) (g.K.Keeper.failing k) (g.K.Keeper.faults k) in
    record {
      ok = waits_go_so tells c.args.milliseconds c.args.running.now c.running.inside.nodes c.running.inside.run c.push.new.self c.now.result c.newest_count-count.result c.new.result c.new-2.result
          c.running.view_is (c.fleets_do_lines.ensures.wait tells) c.in_ok-push.ensures.ok c.now.ensures c.newest_count-count.ensures c.new.ensures c.new-2.ensures c.requires.early
          (subst (λ (k : ℕ). k + 1 < 2 ^ 62) (sym c.newest_count-count.ensures) (one_is_counted tells c.args.running.now c.requires.driven c.entries_are_few.ensures)) (λ given d. c.drivers_stay_sound.ensures.waits given c.args.milliseconds d);
      full = λ r e. absurd (ok_or_err _ _ e);
      stopped = tt;
      rest = rest_of c.running.inside.nodes c.running.inside.run c.push.new.self _ c.args.running.now c.running.view_is c.in_ok-push.ensures.ok;
    }

pub returns-in_err-push-clause-stopped : goal.returns-in_err-push-clause-stopped
returns-in_err-push-clause-stopped g c =
    let tells : g.row.K.Denot → StoreView = λ k. store_view (g.K.Keeper.contents k) (g.K.Keeper.parts k) (g.K.Keeper.failing k) (g.K.Keeper.faults k) in
    let after : FleetView g.row.K.Denot = record { nodes = c.running.inside.nodes; run = record c.running.inside.run { entries = c.push.new.self } } in
    always_err _ _ (start_same tells (λ given d. waits c.args.milliseconds d) c.args.running.now after (λ given d. c.drivers_only_add.ensures.waits c.args.milliseconds d)
    ((λ i. record c.running.inside.run { entries = c.in_err-push.ensures.err i }) ∙ ap (λ (f : FleetView g.row.K.Denot). f.run) c.running.view_is))

pub returns-in_err-push-clause-rest : goal.returns-in_err-push-clause-rest
returns-in_err-push-clause-rest g c =
    rest_where_same c.args.running.now (record { nodes = c.running.inside.nodes; run = record c.running.inside.run { entries = c.push.new.self } })
    ((λ i. record c.running.inside.run { entries = c.in_err-push.ensures.err i }) ∙ ap (λ (f : FleetView g.row.K.Denot). f.run) c.running.view_is)
