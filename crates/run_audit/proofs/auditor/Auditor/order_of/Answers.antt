-- What the proof of `auditor::Auditor::order_of` needs beside the tactics.
use Rattle.std.proofs.Common.{Option, Some, sym, ap, ◌∙◌}
use Rattle.std.specs.Option.{option_copied, option_map}
use Rattle.std.specs.Prelude.{slice_get}
use Rattle.run_data.specs.declared.entry.FrameView.{FrameView}
use Rattle.run_data.specs.declared.job.Proof.{Proof}
use Rattle.audit_laws.specs.Proofs.{proof_after}
use Rattle.run_audit.specs.Telling.{ordered_on}
use Rattle.run_audit.specs.declared.orders.OrderName.{OrderName}
use Rattle.run_audit.proofs.auditor.Auditor.order_of.Goals as goal

pub returns-in_ok-proof-in-Some : goal.returns-in_ok-proof-in-Some
returns-in_ok-proof-in-Some c = λ run of.
    let r = c.args.repo in
    let frame = c.in-Some.frame.now in
    let first = sym (ap option_copied c.in-Some.is) ∙ c.first_of.ensures ∙ ap (λ fs. slice_get fs 0) c.as_slice.ensures in
    c.ordered_as.ensures
    ∙ ap (λ (n : OrderName). option_map (λ p. record { name = n; proof = p }) c.in_ok-proof-in-Some.proof) c.name_sent.ensures
    ∙ ap (λ (p : Option Proof). ordered_on r (Some frame) p) (c.in_ok-proof-in-Some.ensures run of)
    ∙ ap (λ (o : Option FrameView). ordered_on r o (proof_after run r c.args.job)) first

pub returns-in-None : goal.returns-in-None
returns-in-None c = λ run of.
    let none = sym (ap option_copied c.in-None.is) ∙ c.first_of.ensures ∙ ap (λ fs. slice_get fs 0) c.as_slice.ensures in
    ap (λ (o : Option FrameView). ordered_on c.args.repo o (proof_after run c.args.repo c.args.job)) none
