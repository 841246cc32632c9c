-- What holds at each turn of the loops of `blocks::cut`.
use Rattle.std.proofs.Common.{◌≡◌, ◌++◌, length}
use Rattle.annex_base.specs.Lists.{Each}
use Rattle.object_store.specs.BlockLists.{bytes_of_blocks}
use Rattle.object_store.proofs.blocks.cut.Given as goal

abbrev pub invariant-loop-rest : goal.invariant-loop-rest
invariant-loop-rest l = record {
  value : bytes_of_blocks l.full.items ++ l.rest ≡ l.bytes;
  whole : Each (λ b. length b.items ≡ 32768) l.full.items;
}

abbrev pub decreases-loop-rest : goal.decreases-loop-rest
decreases-loop-rest l = length l.rest
