-- What the proof of `contents::fail_next` needs beside the tactics.
use Rattle.fleet_entries.specs.Stored.{StoreView, store_view}
use Rattle.fleet_entries.specs.Fleets.{FleetView}
use Rattle.std.proofs.Common.{ap}
use Rattle.driver_model.specs.ScriptSteps.{will_fail}
use Rattle.fleet_keys.proofs.Failing.{fails_go_so}
use Rattle.fleet_entries.proofs.Full.{ok_or_err, rest_where_same}
use Rattle.fleet_entries.proofs.Starts.{always_err, start_same}
use Rattle.fleet_keys.proofs.contents.fail_next.Goals as goal

pub returns : goal.returns
returns g c =
    let tells : g.row.K.Denot → StoreView = λ k. store_view (g.K.Keeper.contents k) (g.K.Keeper.parts k) (g.K.Keeper.failing k) (g.K.Keeper.faults k) in
    record {
      ok = fails_go_so tells c.args.repo c.args.running.now c.running.inside.nodes c.fail_next.new.self c.running.inside.run c.args.call c.running.view_is (c.fleets_do_lines.ensures.fail tells) c.requires.there
          c.fail_next.ensures.others c.fail_next.ensures.count
          (λ n m at_n at_m. record {
            rest = c.fail_next.ensures.rest n m at_n at_m;
            contents = c.fail_next.ensures.contents n m at_n at_m;
            parts = c.fail_next.ensures.parts n m at_n at_m;
            failing = c.in_ok-fail_next.ensures.ok n m at_n at_m;
          })
          (λ given d. c.drivers_stay_sound.ensures.will_fail given c.args.repo c.args.call d);
      full = λ r e. absurd (ok_or_err _ _ e);
      stopped = tt;
      rest = rest_where_same c.args.running.now (record { nodes = c.fail_next.new.self; run = c.running.inside.run }) (ap (λ (f : FleetView g.row.K.Denot). f.run) c.running.view_is);
    }

pub returns-in_err-fail_next-clause-stopped : goal.returns-in_err-fail_next-clause-stopped
returns-in_err-fail_next-clause-stopped g c =
    let tells : g.row.K.Denot → StoreView = λ k. store_view (g.K.Keeper.contents k) (g.K.Keeper.parts k) (g.K.Keeper.failing k) (g.K.Keeper.faults k) in
    always_err _ _ (start_same tells (λ given d. will_fail c.args.repo c.args.call d) c.args.running.now (record { nodes = c.fail_next.new.self; run = c.running.inside.run })
    (λ given d. c.drivers_only_add.ensures.will_fail c.args.repo c.args.call d) (ap (λ (f : FleetView g.row.K.Denot). f.run) c.running.view_is))

pub returns-in_err-fail_next-clause-rest : goal.returns-in_err-fail_next-clause-rest
returns-in_err-fail_next-clause-rest g c =
    rest_where_same c.args.running.now (record { nodes = c.fail_next.new.self; run = c.running.inside.run }) (ap (λ (f : FleetView g.row.K.Denot). f.run) c.running.view_is)
