-- What holds at each turn of the loop of `settling::take_turns`.
use Rattle.fleet_entries.specs.Stored.{store_view}
use Rattle.driver_model.specs.Driving.{turns}
use Rattle.fleet_entries.specs.AtDriver.{GoesOn, OnlyAddsEntries}
use Rattle.fleet_turns.proofs.settling.take_turns.Given as goal

abbrev pub invariant-loop : goal.invariant-loop
invariant-loop g l = record {
  goes : GoesOn (λ k. store_view (g.K.Keeper.contents k) (g.K.Keeper.parts k) (g.K.Keeper.failing k) (g.K.Keeper.faults k)) (λ given d. turns given l.repo l.counter d) l.fn.running l.running;
  rest : OnlyAddsEntries l.fn.running l.running;
}
