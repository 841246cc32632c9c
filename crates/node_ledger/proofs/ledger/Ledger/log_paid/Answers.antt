-- What the proof of `ledger::Ledger::log_paid` needs beside the tactics.
use Rattle.std.proofs.Common.{ℕ, Bool, if◌then◌else◌, List, bytes_eq, refl, sym, ap, subst, ◌∙◌, ◌∷◌, []}
use Rattle.union_merge.specs.Branch.{lines_at, with_file}
use Rattle.union_merge.specs.LineSet.{union}
use Rattle.trust_groups.specs.Adding.{lines_and}
use Rattle.store_entries.specs.Indexed.{ReadsAlike}
use Rattle.node_ledger.specs.Ledgers.{are_due}
use Rattle.node_past.specs.Owing.{rest_if}
use Rattle.store_entries.proofs.IndexLemmas.{log_alike}
use Rattle.node_ledger.proofs.LogLemmas.{logged, ok_entry, ok_some}
use Rattle.annex_base.specs.declared.kinds.Call.TheVariants.{PutFile}
use Rattle.node_past.proofs.CallLemmas.{makes_short}
use Rattle.node_ledger.proofs.ledger.Ledger.log_paid.Goals as goal

pub returns-clause-ok : goal.returns-clause-ok
returns-clause-ok g c =
    let path = c.args.path.now in
    ok_entry c.write.result c.args.self.now c.write.new.self c.args.file path c.args.new.now c.in_ok-lines.lines (union (lines_at c.args.self.now.branch path) c.args.new.now) (c.in_ok-lines.ensures ∙ c.lines.ensures.value) c.requires.here
    refl c.write.ensures.ok

pub returns-clause-some : goal.returns-clause-some
returns-clause-some g c =
    let path = c.args.path.now in
    ok_some c.write.result c.args.self.now c.write.new.self c.args.file path c.args.new.now c.in_ok-lines.lines (union (lines_at c.args.self.now.branch path) c.args.new.now) (c.in_ok-lines.ensures ∙ c.lines.ensures.value) c.requires.here
    refl c.write.ensures.ok

pub write-requires-clause-reads : goal.write-requires-clause-reads
write-requires-clause-reads g c =
    let law = c.files_are_changed_alone.ensures in
    let b = c.args.self.now.branch in
    let path = c.args.path.now in
    let all = union (lines_at b path) c.args.new.now in
    let new = c.args.new.now in
    subst (λ (ls : List (List ℕ)). ReadsAlike (lines_and (lines_at b) path ls) (lines_at (with_file b path all))) (sym c.lines-2.ensures.value)
    (log_alike (lines_at b) (lines_at (with_file b path all)) path new c.readings_depend_on_the_set.ensures c.unions_have_the_lines_of_both.ensures.either
    (λ q.
    logged b path c.args.file new all c.requires.here (law.there b path all) (λ p differ. law.other b path p all differ)
    refl q
    ∙ ap (λ (w : List ℕ). if bytes_eq w q then union (lines_at b q) new else lines_at b q) (sym c.requires.here)))

pub write-requires-clause-owed : goal.write-requires-clause-owed
write-requires-clause-owed g c =
    let n = c.args.self.now in
    ap (λ (ls : List (List ℕ)). rest_if (are_due n c.args.file ls n.owed) n.owed) (c.in_ok-lines.ensures ∙ c.lines.ensures.value)
    ∙ ap (λ (b : Bool). rest_if b n.owed) (sym c.requires.paid)

pub returns-in_err-lines-clause-calls : goal.returns-in_err-lines-clause-calls
returns-in_err-lines-clause-calls g c = makes_short (PutFile ∷ []) PutFile c.from_residual.result (g.K.Keeper.failing c.args.self.now.keeper) c.from_residual.ensures.1
