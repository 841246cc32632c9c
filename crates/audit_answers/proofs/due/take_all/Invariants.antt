-- What holds at each turn of the loop of `due::take_all`.
use Rattle.std.proofs.Common.{◌≡◌}
use Rattle.step_rules.specs.Runs.{start_of}
use Rattle.step_rules.specs.States.{taken_by}
use Rattle.run_audit.specs.Audited.{IsAuditing, IsAuditorOf}
use Rattle.audit_answers.proofs.due.take_all.Given as goal

abbrev pub invariant-loop-entry : goal.invariant-loop-entry
invariant-loop-entry l = record {
  carried : IsAuditing l.auditor;
  of : IsAuditorOf l.auditor (start_of l.run l.entry-index);
  taken : taken_by l.auditor.state ≡ l.entry-index;
  place : l.place ≡ l.entry-index;
}
