-- What the proof of `ledger::Ledger::add_lines` needs beside the tactics.
use Rattle.std.proofs.Common.{ℕ, List, length, sym, ap, subst, ◌∙◌}
use Rattle.std.specs.Prelude.{◌==◌}
use Rattle.annex_base.specs.declared.kinds.Call.TheVariants.{PutFile}
use Rattle.union_merge.specs.Branch.{Files, lines_at}
use Rattle.union_merge.specs.LineSet.{difference}
use Rattle.node_ledger.specs.Calls.{to_log}
use Rattle.store_entries.specs.Changes.{AreNew}
use Rattle.store_entries.proofs.ChangeLemmas.{difference_new}
use Rattle.node_past.proofs.CallLemmas.{makes_short}
use Rattle.node_ledger.proofs.WalkCallLemmas.{none_logged, some_lacked, some_logged}
use Rattle.node_ledger.proofs.ledger.Ledger.add_lines.Goals as goal

pub returns-in_err-path-clause-calls : goal.returns-in_err-path-clause-calls
returns-in_err-path-clause-calls g c = makes_short (to_log c.args.self.now c.args.file c.args.lines.now) PutFile c.from_residual.result (g.K.Keeper.failing c.args.self.now.keeper) c.from_residual.ensures.1

pub returns-in_err-new-clause-calls : goal.returns-in_err-new-clause-calls
returns-in_err-new-clause-calls g c = makes_short (to_log c.args.self.now c.args.file c.args.lines.now) PutFile c.from_residual-in_err-new.result (g.K.Keeper.failing c.args.self.now.keeper) c.from_residual-in_err-new.ensures.1

pub returns-then-is_empty-clause-calls : goal.returns-then-is_empty-clause-calls
returns-then-is_empty-clause-calls g c = none_logged {X = Unit {0}} tt c.args.self.now c.args.file c.bytes.result.now c.args.lines.now c.in_ok-new.new (g.K.Keeper.failing c.args.self.now.keeper) (c.bytes.ensures ∙ c.in_ok-path.ensures.value) (c.in_ok-new.ensures ∙ ap (λ (b : Files). difference c.args.lines.now (lines_at b c.bytes.result.now)) c.branch-self.ensures) (ap (λ (x : List (List ℕ)). length x == 0) (sym c.lines.ensures.value) ∙ (sym c.is_empty.ensures ∙ c.if-is_empty.true))

pub returns-clause-calls : goal.returns-clause-calls
returns-clause-calls g c = some_logged c.log.result c.args.self.now c.args.file c.bytes.result.now c.args.lines.now c.in_ok-new.new (g.K.Keeper.failing c.args.self.now.keeper) (g.K.Keeper.failing c.log.new.self.keeper) (c.bytes.ensures ∙ c.in_ok-path.ensures.value) (c.in_ok-new.ensures ∙ ap (λ (b : Files). difference c.args.lines.now (lines_at b c.bytes.result.now)) c.branch-self.ensures) (ap (λ (x : List (List ℕ)). length x == 0) (sym c.lines.ensures.value) ∙ (sym c.is_empty.ensures ∙ c.if-is_empty.false)) c.log.ensures.calls

pub returns-clause-full : goal.returns-clause-full
returns-clause-full g c = λ full. some_lacked c.args.self.now c.args.file c.bytes.result.now c.args.lines.now c.in_ok-new.new (c.bytes.ensures ∙ c.in_ok-path.ensures.value) (c.in_ok-new.ensures ∙ ap (λ (b : Files). difference c.args.lines.now (lines_at b c.bytes.result.now)) c.branch-self.ensures) (ap (λ (x : List (List ℕ)). length x == 0) (sym c.lines.ensures.value) ∙ (sym c.is_empty.ensures ∙ c.if-is_empty.false))

pub log-requires-clause-new : goal.log-requires-clause-new
log-requires-clause-new g c =
    let b = c.args.self.now.branch in
    let own = lines_at b c.bytes.result.now in
    subst (λ (p : List ℕ). AreNew c.in_ok-new.new (lines_at b p)) (c.bytes.ensures ∙ sym c.bytes-2.ensures)
    (subst (λ (x : List (List ℕ)). AreNew x own) (sym (c.in_ok-new.ensures ∙ ap (λ (w : Files). difference c.args.lines.now (lines_at w c.bytes.result.now)) c.branch-self.ensures)) (difference_new c.args.lines.now own))
