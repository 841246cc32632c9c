-- What the proof of `running::Running::raise` needs beside the tactics.
use Rattle.std.proofs.Common.{ap, length}
use Rattle.fleet_model.specs.Stored.{StoreView, store_view}
use Rattle.fleet_entries.proofs.Raising.{raises_so}
use Rattle.fleet_entries.proofs.running.Running.raise.Goals as goal

pub returns : goal.returns
returns g c =
    let tells : g.row.K.Denot → StoreView = λ k. store_view (g.K.Keeper.contents k) (g.K.Keeper.parts k) (g.K.Keeper.failing k) (g.K.Keeper.faults k) in
    raises_so tells c.args.repo _ c.now-time.result c.newest_count-count.result c.args.self.now c.self.inside.nodes c.advance.new.self c.self.inside.run c.node.result.now c.self.view_is
    c.now-time.ensures c.newest_count-count.ensures c.entries_are_few.ensures
    c.advance.ensures.node c.advance.ensures.others c.advance.ensures.count c.see.ensures c.node.ensures (ap length c.history.ensures.value)
