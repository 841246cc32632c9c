-- What holds at each turn of the loop of `carrying::carry_out`.
use Rattle.std.proofs.Common.{take}
use Rattle.fleet_entries.specs.Stored.{store_view}
use Rattle.driver_model.specs.Syncs.{carries_out}
use Rattle.fleet_entries.specs.AtDriver.{GoesOn, OnlyAddsEntries}
use Rattle.fleet_syncs.proofs.carrying.carry_out.Given as goal

abbrev pub invariant-loop-action : goal.invariant-loop-action
invariant-loop-action g l = record {
  goes : GoesOn (λ k. store_view (g.K.Keeper.contents k) (g.K.Keeper.parts k) (g.K.Keeper.failing k) (g.K.Keeper.faults k)) (λ given d. carries_out given l.repo (take l.action-index l.actions) d) l.fn.running l.running;
  rest : OnlyAddsEntries l.fn.running l.running;
}
