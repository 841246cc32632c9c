-- What the proof of `ledger::Ledger::pay` needs beside the tactics.
use Rattle.std.proofs.Common.{ℕ, List, sym, subst, ◌∷◌, []}
use Rattle.annex_base.specs.declared.kinds.Call.TheVariants.{PutFile}
use Rattle.union_merge.specs.Branch.{lines_at}
use Rattle.store_entries.specs.Changes.{AreNew}
use Rattle.node_past.proofs.CallLemmas.{makes_short}
use Rattle.node_ledger.proofs.DebtLemmas.{draft_new, err_paid, ok_paid, pays_due, rest_paid}
use Rattle.node_ledger.proofs.ledger.Ledger.pay.Goals as goal

pub log_paid-requires-clause-paid : goal.log_paid-requires-clause-paid
log_paid-requires-clause-paid g c =
    let d = c.in_ok-draft.draft in
    let f = c.in_ok-draft.ensures in
    pays_due c.args.self.now d.file d.new f.owed f.draft.file f.draft.new f.first

pub returns-clause-ok : goal.returns-clause-ok
returns-clause-ok g c o os is =
    ok_paid c.log_paid.result c.args.self.now c.log_paid.new.self c.in_ok-draft.draft o os c.in_ok-draft.ensures is c.log_paid.ensures.ok

pub returns-clause-paid : goal.returns-clause-paid
returns-clause-paid g c o os is =
    rest_paid c.log_paid.result c.args.self.now c.log_paid.new.self c.in_ok-draft.draft o os c.in_ok-draft.ensures is c.log_paid.ensures.ok

pub returns-clause-err : goal.returns-clause-err
returns-clause-err g c o os is =
    err_paid c.log_paid.result c.args.self.now c.log_paid.new.self c.in_ok-draft.draft o os c.in_ok-draft.ensures is c.log_paid.ensures.err

pub returns-in_err-draft-clause-calls : goal.returns-in_err-draft-clause-calls
returns-in_err-draft-clause-calls g c = makes_short (PutFile ∷ []) PutFile c.from_residual.result (g.K.Keeper.failing c.args.self.now.keeper) c.from_residual.ensures.1

pub log_paid-requires-clause-new : goal.log_paid-requires-clause-new
log_paid-requires-clause-new g c =
    let n = c.args.self.now in
    let d = c.in_ok-draft.draft in
    subst (λ (p : List ℕ). AreNew d.new (lines_at n.branch p)) (sym c.bytes.ensures) (draft_new n c.in_ok-draft.ensures.owed d c.in_ok-draft.ensures.draft)
