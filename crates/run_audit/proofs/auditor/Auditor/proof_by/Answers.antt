-- What the proof of `auditor::Auditor::proof_by` needs beside the tactics.
use Rattle.std.proofs.Common.{◌≡◌, Option, sym, ap, ◌∙◌}
use Rattle.std.proofs.lemmas.Result.{IfOk-weaker}
use Rattle.run_data.specs.declared.entry.By.{By}
use Rattle.run_data.specs.declared.job.Proof.{Proof}
use Rattle.run_data.specs.declared.run.Run.{Run}
use Rattle.audit_laws.specs.Proofs.{proof_after}
use Rattle.run_audit.specs.Audited.{IsAuditorOf}
use Rattle.run_audit.specs.Telling.{removed_for, taken_proof}
use Rattle.run_audit.proofs.auditor.Auditor.proof_by.Goals as goal

pub returns-in-Job : goal.returns-in-Job
returns-in-Job c =
    let x = c.args.self.now in
    let e = c.args.entry.now in
    let r = c.args.repo in
    IfOk-weaker c.proof_of.result (λ (p : Option Proof). (run : Run) → IsAuditorOf x run → p ≡ proof_after run r c.in-Job.job)
    (λ (p : Option Proof). (run : Run) → IsAuditorOf x run → p ≡ removed_for run x.orders r e.taken c.args.by.now)
    (λ p is run of. is run of ∙ ap (λ (b : By). removed_for run x.orders r e.taken b) (sym c.in-Job.is))
    c.proof_of.ensures

pub returns-in-Peer : goal.returns-in-Peer
returns-in-Peer c =
    let x = c.args.self.now in
    let e = c.args.entry.now in
    let r = c.args.repo in
    IfOk-weaker c.ordered.result (λ (p : Option Proof). p ≡ taken_proof x.orders r e.taken)
    (λ (p : Option Proof). (run : Run) → IsAuditorOf x run → p ≡ removed_for run x.orders r e.taken c.args.by.now)
    (λ p is run of. is ∙ ap (λ (b : By). removed_for run x.orders r e.taken b) (sym c.in-Peer.is))
    c.ordered.ensures

pub returns-in-Script : goal.returns-in-Script
returns-in-Script c = λ run of. ap (λ (b : By). removed_for run c.args.self.now.orders c.args.repo c.args.entry.now.taken b) (sym c.in-Script.is)
