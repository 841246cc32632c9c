-- What holds at each turn of the loops of `ledger::Ledger::compact`.
use Rattle.std.proofs.Common.{◌≡◌, ◌≤◌, drop, take}
use Rattle.std.specs.Map.{keys_of}
use Rattle.annex_base.specs.Lists.{Each}
use Rattle.union_merge.specs.LineSet.{IsLine}
use Rattle.node_ledger.specs.Calls.{shrinks_at}
use Rattle.node_ledger.specs.Walks.{compact_files, over}
use Rattle.node_ledger.proofs.WalkCallLemmas.{Wrote}
use Rattle.node_ledger.proofs.ledger.Ledger.compact.Given as goal

-- the files before this one are done
abbrev pub invariant-loop-path : goal.invariant-loop-path
invariant-loop-path g l = record {
  is : l.self ≡ over l.self.keeper (compact_files l.fn.self (take l.path-index l.path-items));
  wrote : Wrote shrinks_at l.fn.self l.self l.path-items (drop l.path-index l.path-items) (g.K.Keeper.failing l.fn.self.keeper) (g.K.Keeper.failing l.self.keeper);
  all : l.path-items ≡ keys_of l.fn.self.branch;
  lines : Each IsLine l.path-items;
  contents : g.K.Keeper.contents l.self.keeper ≡ g.K.Keeper.contents l.fn.self.keeper;
  parts : g.K.Keeper.parts l.self.keeper ≡ g.K.Keeper.parts l.fn.self.keeper;
  records : g.K.Keeper.records l.self.keeper ≡ g.K.Keeper.records l.fn.self.keeper;
  later : g.K.Keeper.faults l.fn.self.keeper ≤ g.K.Keeper.faults l.self.keeper;
}
