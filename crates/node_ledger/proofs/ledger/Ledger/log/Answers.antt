-- What the proof of `ledger::Ledger::log` needs beside the tactics.
use Rattle.std.proofs.Common.{ℕ, List, ap, ◌∙◌, ◌∷◌, []}
use Rattle.node_ledger.specs.Ledgers.{are_due}
use Rattle.annex_base.specs.declared.kinds.Call.TheVariants.{PutFile}
use Rattle.node_past.proofs.CallLemmas.{makes_short}
use Rattle.node_ledger.proofs.ledger.Ledger.log.Goals as goal

pub log_paid-requires-clause-paid : goal.log_paid-requires-clause-paid
log_paid-requires-clause-paid g c =
    c.in_ok-paid.ensures c.args.file c.requires.here ∙ ap (λ (ls : List (List ℕ)). are_due c.args.self.now c.args.file ls c.args.self.now.owed) c.lines.ensures.value

pub returns-in_err-paid-clause-calls : goal.returns-in_err-paid-clause-calls
returns-in_err-paid-clause-calls g c = makes_short (PutFile ∷ []) PutFile c.from_residual.result (g.K.Keeper.failing c.args.self.now.keeper) c.from_residual.ensures.1
