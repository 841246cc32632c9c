-- What holds at each turn of the loops of `ledger::Ledger::merge`.
use Rattle.std.proofs.Common.{◌≡◌, ◌≤◌}
use Rattle.annex_base.specs.Lists.{Each}
use Rattle.union_merge.specs.FileView.{files_of}
use Rattle.union_merge.specs.LineSet.{IsLine, IsLineSet}
use Rattle.node_ledger.specs.Calls.{lacks_of}
use Rattle.node_ledger.specs.Walks.{merge_file}
use Rattle.node_ledger.proofs.WalkCallLemmas.{Wrote}
use Rattle.node_ledger.proofs.WalkLemmas.{Went}
use Rattle.node_ledger.proofs.ledger.Ledger.merge.Given as goal

-- the files before this one are done
abbrev pub invariant-loop-path : goal.invariant-loop-path
invariant-loop-path g l = record {
  went : Went merge_file l.fn.self l.self l.fn.other (files_of l.path-iterator);
  wrote : Wrote lacks_of l.fn.self l.self l.fn.other (files_of l.path-iterator) (g.K.Keeper.failing l.fn.self.keeper) (g.K.Keeper.failing l.self.keeper);
  each : Each (λ f. IsLine f.0 × IsLineSet f.1) (files_of l.path-iterator);
  contents : g.K.Keeper.contents l.self.keeper ≡ g.K.Keeper.contents l.fn.self.keeper;
  parts : g.K.Keeper.parts l.self.keeper ≡ g.K.Keeper.parts l.fn.self.keeper;
  records : g.K.Keeper.records l.self.keeper ≡ g.K.Keeper.records l.fn.self.keeper;
  later : g.K.Keeper.faults l.fn.self.keeper ≤ g.K.Keeper.faults l.self.keeper;
}
