-- What holds at each turn of the loop of `settling::round`.
use Rattle.std.specs.List.{range_with_len}
use Rattle.fleet_entries.specs.Stored.{store_view}
use Rattle.driver_model.specs.Rounds.{turns_of}
use Rattle.fleet_entries.specs.AtDriver.{GoesOn, OnlyAddsEntries}
use Rattle.fleet_turns.proofs.settling.round.Given as goal

abbrev pub invariant-loop-repo : goal.invariant-loop-repo
invariant-loop-repo g l = record {
  goes : GoesOn (λ k. store_view (g.K.Keeper.contents k) (g.K.Keeper.parts k) (g.K.Keeper.failing k) (g.K.Keeper.faults k)) (λ given d. turns_of given (range_with_len 0 l.repo) d) l.fn.running l.running;
  rest : OnlyAddsEntries l.fn.running l.running;
}
