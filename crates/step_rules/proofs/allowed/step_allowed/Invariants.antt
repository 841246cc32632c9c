-- What holds at each turn of the loop of `allowed::step_allowed`.
use Rattle.std.proofs.Common.{◌≡◌}
use Rattle.step_rules.specs.Runs.{start_of}
use Rattle.step_rules.specs.States.{IsAfter, IsCarried, taken_by}
use Rattle.step_rules.proofs.allowed.step_allowed.Given as goal

abbrev pub invariant-loop-entry : goal.invariant-loop-entry
invariant-loop-entry l = record {
  carried : IsCarried l.state;
  after : IsAfter l.state (start_of l.run l.entry-index);
  taken : taken_by l.state ≡ l.entry-index;
}
