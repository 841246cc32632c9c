-- What the proof of `fleet::Fleet::line` needs beside the tactics: a fleet is seen as what runs in it.
use Rattle.std.proofs.Common.{length, subst, sym}
use Rattle.fleet_entries.specs.Stored.{StoreView, store_view}
use Rattle.fleet_entries.specs.Fleets.{FleetView}
use Rattle.fleet_entries.specs.AtDriver.{IsDrivenWithin}
use Rattle.fleet_run.proofs.fleet.Fleet.line.Goals as goal

pub do_and_mark-requires-clause-driven : goal.do_and_mark-requires-clause-driven
do_and_mark-requires-clause-driven g c = λ κs lives.
    let tells : g.row.K.Denot → StoreView = λ k. store_view (g.K.Keeper.contents k) (g.K.Keeper.parts k) (g.K.Keeper.failing k) (g.K.Keeper.faults k) in
    subst (λ (f : FleetView g.row.K.Denot). IsDrivenWithin tells (length f.run.marks) f) (sym c.self.view_is) c.requires.driven

pub returns : goal.returns
returns g c =
    let line = c.do_and_mark.ensures in
    rw (← c.self.view_is) (record { ok = line.ok; driven = line.marked; marks = line.marks; within = line.within; full = line.full; stopped = line.stopped; kept = line.kept })
