-- What the proof of `auditor::Auditor::proof` needs beside the tactics.
use Rattle.std.proofs.Common.{◌≡◌, Option, sym, ap, ◌∙◌}
use Rattle.std.proofs.lemmas.Result.{IfOk-weaker}
use Rattle.run_data.specs.declared.entry.EntryKind.{EntryKind}
use Rattle.run_data.specs.declared.job.Proof.{Proof}
use Rattle.run_data.specs.declared.run.Run.{Run}
use Rattle.run_audit.specs.Audited.{IsAuditorOf}
use Rattle.run_audit.specs.Telling.{removed_by, removed_for}
use Rattle.run_audit.proofs.Told.{none_removed}
use Rattle.run_audit.proofs.auditor.Auditor.proof.Goals as goal

pub returns-in-Gone : goal.returns-in-Gone
returns-in-Gone c =
    let x = c.args.self.now in
    let e = c.args.entry.now in
    let r = c.args.repo in
    IfOk-weaker c.proof_by.result
    (λ (p : Option Proof). (run : Run) → IsAuditorOf x run → p ≡ removed_for run x.orders r e.taken c.in-Gone.by)
    (λ (p : Option Proof). (run : Run) → IsAuditorOf x run → p ≡ removed_by run x.orders r e e.kind)
    (λ p is run of. is run of ∙ ap (λ (k : EntryKind). removed_by run x.orders r e k) (sym c.in-Gone.is))
    c.proof_by.ensures

pub returns-in_default : goal.returns-in_default
returns-in_default c = λ run of. none_removed run c.args.self.now.orders c.args.repo c.args.entry.now c.args.entry.now.kind c.in_default.not-Gone
