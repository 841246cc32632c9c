-- What the proof of `ledger::Ledger::due` needs beside the tactics.
use Rattle.std.proofs.Common.{◌≡◌, List, ℕ, ◌+◌, IfOk, ap, subst, ◌∙◌}
use Rattle.node_model.specs.OwedLines.{if_new, stamp_at}
use Rattle.union_merge.specs.Branch.{lines_at}
use Rattle.node_ledger.proofs.DebtLemmas.{ok_due}
use Rattle.node_ledger.proofs.ledger.Ledger.due.Goals as goal

pub returns : goal.returns
returns g c = λ key here.
    let n = c.args.self.now in
    ok_due c.if_new.result n c.branch-branch.result.now key c.args.path.now c.in_ok-line.line c.id_of-id.result c.args.repo c.args.there here c.branch-branch.ensures c.id_of-id.ensures
    (c.in_ok-line.ensures.text (n.time + n.setup.offset) (c.stamp-clock.ensures ∙ ap (λ v. stamp_at (v.time + v.setup.offset)) c.self.view_is))
    (subst (λ (l : List ℕ). IfOk c.if_new.result (λ s. s ≡ if_new (lines_at c.branch-branch.result.now c.args.path.now) l)) c.bytes.ensures c.if_new.ensures)
