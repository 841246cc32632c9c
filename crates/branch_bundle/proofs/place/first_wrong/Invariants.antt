-- What holds at each turn of the loops of `place::first_wrong`.
use Rattle.std.proofs.Common.{◌<◌, ◌≤◌, ◌-◌, length, take}
use Rattle.branch_bundle.specs.Bundle.{BeginsBundle}
use Rattle.branch_bundle.proofs.place.first_wrong.Given as goal

abbrev pub invariant-loop-high : goal.invariant-loop-high
invariant-loop-high l = record {
  order : l.low < l.high;
  within : l.high ≤ length l.text;
  before : BeginsBundle (take l.low l.text);
  wrong : BeginsBundle (take l.high l.text) → ⊥;
}

abbrev pub decreases-loop-high : goal.decreases-loop-high
decreases-loop-high l = l.high - l.low
