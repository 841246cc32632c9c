-- What holds at each turn of the loop of `trees::passed`.
use Rattle.std.proofs.Common.{◌≤◌, ◌-◌, length, take}
use Rattle.annex_base.specs.Lists.{Each}
use Rattle.step_rules.proofs.trees.passed.Given as goal

abbrev pub invariant-loop-count : goal.invariant-loop-count
invariant-loop-count l = record {
  more : l.passed ≤ l.count;
  few : l.count ≤ length l.marks;
  before : Each (λ m. m.place ≤ l.place) (take l.count l.marks);
}

abbrev pub decreases-loop-count : goal.decreases-loop-count
decreases-loop-count l = length l.marks - l.count
