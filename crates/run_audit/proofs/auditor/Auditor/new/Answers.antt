-- What the proof of `auditor::Auditor::new` needs beside the tactics.
use Rattle.std.proofs.Common.{ap, length, sym, ◌∙◌}
use Rattle.step_rules.specs.Runs.{start_of}
use Rattle.run_audit.specs.declared.auditor.Auditor.{Auditor}
use Rattle.run_audit.proofs.Taken.{begins}
use Rattle.run_audit.proofs.auditor.Auditor.new.Goals as goal

pub returns-clause-after : goal.returns-clause-after
returns-clause-after c =
    let x : Auditor = record { alloc = c.args.alloc; repos = c.as_slice-repos.result; state = c.in_ok-start.field-0; orders = c.new.result; records = c.new-2.result } in
    begins x c.args.run.now c.in_ok-start.ensures.after (sym c.as_slice-repos.ensures) (c.new-2.ensures.repos ∙ ap length c.as_slice-repos.ensures) c.new-2.ensures.none

pub returns-clause-carried : goal.returns-clause-carried
returns-clause-carried c = record { carried = c.in_ok-start.ensures.carried; run = start_of c.args.run.now 0; of = returns-clause-after c }
