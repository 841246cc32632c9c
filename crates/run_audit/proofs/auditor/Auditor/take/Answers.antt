-- What the proof of `auditor::Auditor::take` needs beside the tactics.
use Rattle.std.proofs.Common.{refl}
use Rattle.run_data.specs.declared.run.Run.{Run}
use Rattle.step_rules.specs.Runs.{with_entry}
use Rattle.step_rules.specs.States.{TellsOf}
use Rattle.run_audit.specs.Audited.{IsAuditorOf}
use Rattle.run_audit.specs.declared.auditor.Auditor.{Auditor}
use Rattle.run_audit.proofs.Placing.{stay_same}
use Rattle.run_audit.proofs.Taken.{handed_on, on_err_always, stays, waits}
use Rattle.run_audit.proofs.auditor.Auditor.take.Goals as goal

pub returns-in_err-take-in-None-clause-wanted : goal.returns-in_err-take-in-None-clause-wanted
returns-in_err-take-in-None-clause-wanted c =
    handed_on (λ w. (run : Run) → IsAuditorOf c.args.self.now run → TellsOf run c.args.entry.now w) c.from_residual.result c.in_err-take-in-None.field-0.0 c.from_residual.ensures.1 (λ run of. c.in_err-take-in-None.ensures.wanted run of.after)

pub returns-in_err-take-in-None-clause-same : goal.returns-in_err-take-in-None-clause-same
returns-in_err-take-in-None-clause-same c =
    let x = c.args.self.now in
    let y : Auditor = record x { state = c.take.new.self } in
    on_err_always c.from_residual.result (stays x y c.in_err-take-in-None.ensures.same refl (record { repos = refl; each = stay_same x.records.repos x.records.kept.entries }) refl)

pub returns-in_err-take-in-None-clause-carried : goal.returns-in_err-take-in-None-clause-carried
returns-in_err-take-in-None-clause-carried c =
    let x = c.args.self.now in
    let y : Auditor = record x { state = c.take.new.self } in
    let run = c.requires.carried.run in
    record { carried = c.in_err-take-in-None.ensures.carried; run = run; of = stays x y c.in_err-take-in-None.ensures.same refl (record { repos = refl; each = stay_same x.records.repos x.records.kept.entries }) refl run c.requires.carried.of }

pub returns-in_ok-take-in-None-clause-ok : goal.returns-in_ok-take-in-None-clause-ok
returns-in_ok-take-in-None-clause-ok c =
    let x = c.args.self.now in
    let y : Auditor = record x { state = c.take.new.self } in
    waits x y c.args.entry.now c.in-None.is c.in_ok-take-in-None.ensures.ok refl refl refl

pub returns-in_ok-take-in-None-clause-carried : goal.returns-in_ok-take-in-None-clause-carried
returns-in_ok-take-in-None-clause-carried c = record {
  carried = c.in_ok-take-in-None.ensures.carried;
  run = with_entry c.requires.carried.run c.args.entry.now;
  of = returns-in_ok-take-in-None-clause-ok c c.requires.carried.run c.requires.carried.of;
}
