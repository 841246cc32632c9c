-- What the proof of `running::Running::see` needs beside the tactics.
use Rattle.fleet_model.specs.Stored.{StoreView, store_view}
use Rattle.fleet_entries.proofs.Whole.{seen_whole}
use Rattle.fleet_entries.proofs.running.Running.see.Goals as goal

pub returns : goal.returns
returns g c =
    let tells : g.row.K.Denot → StoreView = λ k. store_view (g.K.Keeper.contents k) (g.K.Keeper.parts k) (g.K.Keeper.failing k) (g.K.Keeper.faults k) in
    seen_whole tells c.args.repo c.node.result.now (record { nodes = c.self.inside.nodes; run = c.self.inside.run }) c.args.self.now c.self.view_is c.node.ensures c.history.ensures.state c.history.ensures.sound
