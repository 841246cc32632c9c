-- What holds at each turn of the loops of `blocks::Blocks::read`.
use Rattle.std.proofs.Common.{◌≡◌, ◌++◌, ◌≤◌, ◌-◌, take, drop}
use Rattle.object_store.proofs.blocks.Blocks.read.Given as goal

abbrev pub invariant-loop-filled : goal.invariant-loop-filled
invariant-loop-filled l = record {
  within : l.filled ≤ l.most;
  room : l.room ≡ take l.filled (drop l.at l.self) ++ drop l.filled l.initial.room;
}

abbrev pub decreases-loop-filled : goal.decreases-loop-filled
decreases-loop-filled l = l.most - l.filled
