-- What the proof of `fleet::Fleet::over` needs beside the tactics.
use Rattle.std.proofs.Common.{List, subst}
use Rattle.run_data.specs.declared.run.RepoView.{RepoView}
use Rattle.fleet_entries.specs.Joined.{AreNew}
use Rattle.fleet_entries.specs.Stored.{StoreView, store_view}
use Rattle.fleet_run.proofs.Begun.{begins_so, driven_first}
use Rattle.fleet_run.proofs.fleet.Fleet.over.Goals as goal

pub returns-clause-driven : goal.returns-clause-driven
returns-clause-driven g c =
    let tells : g.row.K.Denot → StoreView = λ k. store_view (g.K.Keeper.contents k) (g.K.Keeper.parts k) (g.K.Keeper.failing k) (g.K.Keeper.faults k) in
    driven_first tells _ c.args.repos _ c.bytes_are_matched.ensures
    (begins_so tells c.args.repos c.args.keepers.items c.in_ok-nodes.nodes c.empty_run.result c.fleets_begin.ensures c.drivers_stay_sound.ensures.first (subst (λ (rs : List RepoView). AreNew rs c.args.keepers.items c.in_ok-nodes.nodes) c.as_slice.ensures c.in_ok-nodes.ensures) c.requires.count c.requires.tells c.requires.run.each c.empty_run.ensures) c.requires.repos

pub returns-clause-stands : goal.returns-clause-stands
returns-clause-stands g c =
    let tells : g.row.K.Denot → StoreView = λ k. store_view (g.K.Keeper.contents k) (g.K.Keeper.parts k) (g.K.Keeper.failing k) (g.K.Keeper.faults k) in
    begins_so tells c.args.repos c.args.keepers.items c.in_ok-nodes.nodes c.empty_run.result c.fleets_begin.ensures c.drivers_stay_sound.ensures.first (subst (λ (rs : List RepoView). AreNew rs c.args.keepers.items c.in_ok-nodes.nodes) c.as_slice.ensures c.in_ok-nodes.ensures) c.requires.count c.requires.tells c.requires.run.each c.empty_run.ensures
