-- What the proof of `running::Running::end_call` needs beside the tactics.
use Rattle.std.proofs.Common.{inr}
use Rattle.annex_base.proofs.Lists.{slice_get-within}
use Rattle.fleet_model.specs.Stored.{StoreView, store_view}
use Rattle.fleet_entries.proofs.Starts.{always_err, tells_some_there}
use Rattle.fleet_entries.proofs.running.Running.end_call.Goals as goal

pub returns-in_err-tell-clause-stopped : goal.returns-in_err-tell-clause-stopped
returns-in_err-tell-clause-stopped g c =
    let tells : g.row.K.Denot → StoreView = λ k. store_view (g.K.Keeper.contents k) (g.K.Keeper.parts k) (g.K.Keeper.failing k) (g.K.Keeper.faults k) in
    always_err _ _ (inr (tells_some_there tells c.args.repo c.args.had c.args.self.now c.tell.new.self c.runs_grow.ensures.start (slice_get-within c.args.self.now.nodes c.args.repo c.requires.there) c.tell.ensures.node c.tell.ensures.some))
