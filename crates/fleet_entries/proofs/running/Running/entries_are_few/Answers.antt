-- What the proof of `running::Running::entries_are_few` needs beside the tactics.
use Rattle.fleet_model.specs.Stored.{StoreView, store_view}
use Rattle.fleet_entries.proofs.Entries.{entries_few}
use Rattle.fleet_entries.proofs.Full.{few_in}
use Rattle.fleet_entries.proofs.running.Running.entries_are_few.Goals as goal

pub returns : goal.returns
returns g c =
    let tells : g.row.K.Denot → StoreView = λ k. store_view (g.K.Keeper.contents k) (g.K.Keeper.parts k) (g.K.Keeper.failing k) (g.K.Keeper.faults k) in
    entries_few tells c.args.self.now c.requires.driven (few_in c.self.inside.nodes c.self.inside.run c.args.self.now c.self.view_is c.histories_are_few.ensures)
