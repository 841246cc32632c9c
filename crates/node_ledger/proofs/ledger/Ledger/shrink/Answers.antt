-- What the proof of `ledger::Ledger::shrink` needs beside the tactics.
use Rattle.std.proofs.Common.{ℕ, if◌then◌else◌, List, Option, bytes_eq, sym, ap, ◌∙◌, ◌∷◌, []}
use Rattle.log_lines.specs.declared.entry.LogKind.{LogKind}
use Rattle.run_data.specs.Files.{kind_of}
use Rattle.node_model.specs.Files.{compact_lines}
use Rattle.union_merge.specs.Branch.{Files, lines_at, with_file}
use Rattle.store_entries.proofs.IndexLemmas.{shrunk_alike}
use Rattle.node_ledger.proofs.LogLemmas.{ok_shrunk, shrunk}
use Rattle.annex_base.specs.declared.kinds.Call.TheVariants.{PutFile}
use Rattle.node_past.proofs.CallLemmas.{makes_short}
use Rattle.node_ledger.proofs.ledger.Ledger.shrink.Goals as goal

pub returns-clause-ok : goal.returns-clause-ok
returns-clause-ok g c =
    ok_shrunk c.write.result c.args.self.now c.write.new.self c.args.path.now c.args.file c.args.kind c.lines_of-lines.result.now c.in_ok-all.all c.new-none.result c.requires.here c.requires.kind
    (c.lines_of-lines.ensures.lines ∙ ap (λ (x : Files). lines_at x c.args.path.now) c.branch-branch.ensures) c.in_ok-all.ensures c.new-none.ensures c.write.ensures.ok

pub write-requires-clause-reads : goal.write-requires-clause-reads
write-requires-clause-reads g c =
    let law = c.files_are_changed_alone.ensures in
    let b = c.args.self.now.branch in
    let path = c.args.path.now in
    let all = c.in_ok-all.all in
    let kind = c.args.kind in
    shrunk_alike (lines_at b) (lines_at (with_file b path all)) path kind (ap kind_of (sym c.requires.named) ∙ c.requires.kind) c.compaction_keeps_the_reading.ensures.alike
    (λ q.
    shrunk b path c.args.file kind c.lines_of-lines.result.now all c.new-none.result c.requires.here c.requires.kind
    (c.lines_of-lines.ensures.lines ∙ ap (λ (x : Files). lines_at x path) c.branch-branch.ensures) c.in_ok-all.ensures c.new-none.ensures
    (law.there b path all) (λ p differ. law.other b path p all differ) q
    ∙ ap (λ (w : List ℕ). if bytes_eq w q then compact_lines (kind_of c.args.file) (lines_at b q) else lines_at b q) (sym c.requires.here)
    ∙ ap (λ (o : Option LogKind). if bytes_eq path q then compact_lines o (lines_at b q) else lines_at b q) c.requires.kind)

pub returns-in_err-all-clause-calls : goal.returns-in_err-all-clause-calls
returns-in_err-all-clause-calls g c = makes_short (PutFile ∷ []) PutFile c.from_residual.result (g.K.Keeper.failing c.args.self.now.keeper) c.from_residual.ensures.1
