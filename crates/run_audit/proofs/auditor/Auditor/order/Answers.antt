-- What the proof of `auditor::Auditor::order` needs beside the tactics.
use Rattle.std.proofs.Common.{◌≡◌, Option, sym, ap, ◌∙◌}
use Rattle.std.specs.Prelude.{slice_get}
use Rattle.std.proofs.lemmas.Result.{IfOk-weaker}
use Rattle.run_data.specs.declared.entry.EntryKind.{EntryKind}
use Rattle.run_data.specs.declared.run.Run.{Run}
use Rattle.audit_laws.specs.Proofs.{proof_after}
use Rattle.run_audit.specs.Audited.{IsAuditorOf}
use Rattle.run_audit.specs.Telling.{ordered_by, ordered_on}
use Rattle.run_audit.specs.declared.orders.Ordered.{Ordered}
use Rattle.run_audit.proofs.Told.{no_order_by}
use Rattle.run_audit.proofs.auditor.Auditor.order.Goals as goal

pub returns-in-Order : goal.returns-in-Order
returns-in-Order c =
    let x = c.args.self.now in
    let e = c.args.entry.now in
    let r = c.args.repo in
    IfOk-weaker c.order_of.result
    (λ (o : Option Ordered). (run : Run) → IsAuditorOf x run → o ≡ ordered_on r (slice_get e.sent 0) (proof_after run r c.in-Order.job))
    (λ (o : Option Ordered). (run : Run) → IsAuditorOf x run → o ≡ ordered_by run r e e.kind)
    (λ o is run of. is run of ∙ ap (λ (k : EntryKind). ordered_by run r e k) (sym c.in-Order.is))
    c.order_of.ensures

pub returns-in_default : goal.returns-in_default
returns-in_default c = λ run of. no_order_by run c.args.repo c.args.entry.now c.args.entry.now.kind c.in_default.not-Order
