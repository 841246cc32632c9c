-- What holds at each turn of the loop of `settling::settle`.
use Rattle.fleet_entries.specs.Stored.{store_view}
use Rattle.fleet_entries.specs.AtDriver.{OnlyAddsEntries}
use Rattle.fleet_turns.proofs.Rounds.{HasGone}
use Rattle.fleet_turns.proofs.settling.settle.Given as goal

abbrev pub invariant-loop : goal.invariant-loop
invariant-loop g l = record {
  gone : HasGone (λ k. store_view (g.K.Keeper.contents k) (g.K.Keeper.parts k) (g.K.Keeper.failing k) (g.K.Keeper.faults k)) l.counter l.idle l.fn.running l.running;
  rest : OnlyAddsEntries l.fn.running l.running;
}
