-- What holds at each turn of the loop of `sharing::merge_each`.
use Rattle.std.specs.List.{range_with_len}
use Rattle.fleet_entries.specs.Stored.{store_view}
use Rattle.driver_model.specs.Syncs.{merges_each}
use Rattle.fleet_entries.specs.AtDriver.{GoesOn, OnlyAddsEntries}
use Rattle.fleet_syncs.specs.Others.{others_among}
use Rattle.fleet_syncs.proofs.sharing.merge_each.Given as goal

abbrev pub invariant-loop-other : goal.invariant-loop-other
invariant-loop-other g l = record {
  goes : GoesOn (λ k. store_view (g.K.Keeper.contents k) (g.K.Keeper.parts k) (g.K.Keeper.failing k) (g.K.Keeper.faults k)) (λ given d. merges_each l.repo (others_among l.repo (range_with_len 0 l.other)) d) l.fn.running l.running;
  rest : OnlyAddsEntries l.fn.running l.running;
}
