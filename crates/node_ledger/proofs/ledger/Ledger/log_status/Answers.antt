-- What the proof of `ledger::Ledger::log_status` needs beside the tactics.
use Rattle.node_ledger.proofs.DebtLemmas.{draft_new, ok_status}
use Rattle.std.proofs.Common.{ℕ, List, sym, subst, ◌∷◌, []}
use Rattle.annex_base.specs.declared.kinds.Call.TheVariants.{PutFile}
use Rattle.union_merge.specs.Branch.{lines_at}
use Rattle.store_entries.specs.Changes.{AreNew}
use Rattle.node_past.proofs.CallLemmas.{makes_short}
use Rattle.node_ledger.proofs.ledger.Ledger.log_status.Goals as goal

pub returns-clause-ok : goal.returns-clause-ok
returns-clause-ok g c =
    let d = c.in_ok-draft.draft in
    ok_status c.log.result c.args.self.now c.log.new.self c.args.key.now c.args.repo c.args.there d.file d.new c.in_ok-draft.ensures.file c.in_ok-draft.ensures.new c.log.ensures.ok

pub returns-in_err-draft-clause-calls : goal.returns-in_err-draft-clause-calls
returns-in_err-draft-clause-calls g c = makes_short (PutFile ∷ []) PutFile c.from_residual.result (g.K.Keeper.failing c.args.self.now.keeper) c.from_residual.ensures.1

pub log-requires-clause-new : goal.log-requires-clause-new
log-requires-clause-new g c =
    let n = c.args.self.now in
    let d = c.in_ok-draft.draft in
    subst (λ (p : List ℕ). AreNew d.new (lines_at n.branch p)) (sym c.bytes.ensures)
    (draft_new n (record { by = c.args.by; repo = c.args.repo; there = c.args.there; key = c.args.key.now }) d c.in_ok-draft.ensures)
