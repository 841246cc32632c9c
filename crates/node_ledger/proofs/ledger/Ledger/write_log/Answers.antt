-- What the proof of `ledger::Ledger::write_log` needs beside the tactics.
use Rattle.std.proofs.Common.{◌≡◌, List, ℕ, ◌+◌, OnOk, sym, ap, subst, ◌∙◌, [], ◌∷◌}
use Rattle.std.specs.Option.{option_copied}
use Rattle.log_lines.specs.declared.entry.Entry.{Entry}
use Rattle.log_lines.specs.LineText.{line_text}
use Rattle.node_model.specs.OwedLines.{stamp_at}
use Rattle.run_data.specs.Files.{file_path}
use Rattle.run_data.specs.declared.entry.LogFile.{LogFile}
use Rattle.union_merge.specs.Branch.{Files, lines_at}
use Rattle.union_merge.specs.LineSet.{IsLine}
use Rattle.branch_lines.specs.Logs.{log_of, with_next_stamp}
use Rattle.node_ledger.specs.Logs.{stamped_by, with_lines}
use Rattle.annex_base.specs.declared.kinds.Call.TheVariants.{PutFile}
use Rattle.node_ledger.specs.Calls.{to_log}
use Rattle.node_past.proofs.CallLemmas.{makes_short}
use Rattle.node_ledger.proofs.WalkCallLemmas.{lacks_as, logged_as}
use Rattle.node_ledger.proofs.ledger.Ledger.write_log.Goals as goal

pub set_of_line-requires : goal.set_of_line-requires
set_of_line-requires g c =
    let n = c.args.self.now in
    let kind = c.args.kind in
    let e : Entry = c.args.entry.now in
    let clock = c.stamp-clock.result in
    let place = file_path (log_of kind (option_copied c.args.key)) in
    let is =
    ap (λ (b : Files). with_next_stamp kind (lines_at b c.bytes.result.now) clock e) c.branch-branch.ensures
    ∙ ap (λ (p : List ℕ). with_next_stamp kind (lines_at n.branch p) clock e) (c.bytes.ensures ∙ c.in_ok-path.ensures.value ∙ ap file_path c.in_ok-file.ensures.value)
    ∙ ap (λ (t : ℕ). with_next_stamp kind (lines_at n.branch place) t e) (c.stamp-clock.ensures ∙ ap (λ v. stamp_at (v.time + v.setup.offset)) c.self.view_is) in
    subst (λ (l : List ℕ). IsLine l) (sym (c.bytes-2.ensures ∙ c.in_ok-line.ensures ∙ ap (line_text kind) is)) c.requires.line

pub returns-clause-ok : goal.returns-clause-ok
returns-clause-ok g c =
    let n = c.args.self.now in
    let kind = c.args.kind in
    let e : Entry = c.args.entry.now in
    let clock = c.stamp-clock.result in
    let place = file_path (log_of kind (option_copied c.args.key)) in
    let line = line_text kind (stamped_by n kind (option_copied c.args.key) e) in
    let is =
    ap (λ (b : Files). with_next_stamp kind (lines_at b c.bytes.result.now) clock e) c.branch-branch.ensures
    ∙ ap (λ (p : List ℕ). with_next_stamp kind (lines_at n.branch p) clock e) (c.bytes.ensures ∙ c.in_ok-path.ensures.value ∙ ap file_path c.in_ok-file.ensures.value)
    ∙ ap (λ (t : ℕ). with_next_stamp kind (lines_at n.branch place) t e) (c.stamp-clock.ensures ∙ ap (λ v. stamp_at (v.time + v.setup.offset)) c.self.view_is) in
    subst (λ (f : LogFile). OnOk c.add_lines.result (c.add_lines.new.self ≡ with_lines n c.add_lines.new.self.keeper f (line ∷ []))) c.in_ok-file.ensures.value
    (subst (λ (ls : List (List ℕ)). OnOk c.add_lines.result (c.add_lines.new.self ≡ with_lines n c.add_lines.new.self.keeper c.in_ok-file.file ls))
    (c.in_ok-lines.ensures ∙ ap (λ (l : List ℕ). l ∷ []) (c.bytes-2.ensures ∙ c.in_ok-line.ensures ∙ ap (line_text kind) is)) c.add_lines.ensures.ok)

pub returns-in_err-file-clause-calls : goal.returns-in_err-file-clause-calls
returns-in_err-file-clause-calls g c = makes_short (to_log c.args.self.now (log_of c.args.kind (option_copied c.args.key)) (line_text c.args.kind (stamped_by c.args.self.now c.args.kind (option_copied c.args.key) c.args.entry.now) ∷ [])) PutFile c.from_residual.result (g.K.Keeper.failing c.args.self.now.keeper) c.from_residual.ensures.1

pub returns-in_err-path-clause-calls : goal.returns-in_err-path-clause-calls
returns-in_err-path-clause-calls g c = makes_short (to_log c.args.self.now (log_of c.args.kind (option_copied c.args.key)) (line_text c.args.kind (stamped_by c.args.self.now c.args.kind (option_copied c.args.key) c.args.entry.now) ∷ [])) PutFile c.from_residual-in_err-path.result (g.K.Keeper.failing c.args.self.now.keeper) c.from_residual-in_err-path.ensures.1

pub returns-in_err-line-clause-calls : goal.returns-in_err-line-clause-calls
returns-in_err-line-clause-calls g c = makes_short (to_log c.args.self.now (log_of c.args.kind (option_copied c.args.key)) (line_text c.args.kind (stamped_by c.args.self.now c.args.kind (option_copied c.args.key) c.args.entry.now) ∷ [])) PutFile c.from_residual-in_err-line.result (g.K.Keeper.failing c.args.self.now.keeper) c.from_residual-in_err-line.ensures.1

pub returns-in_err-lines-clause-calls : goal.returns-in_err-lines-clause-calls
returns-in_err-lines-clause-calls g c = makes_short (to_log c.args.self.now (log_of c.args.kind (option_copied c.args.key)) (line_text c.args.kind (stamped_by c.args.self.now c.args.kind (option_copied c.args.key) c.args.entry.now) ∷ [])) PutFile c.from_residual-in_err-lines.result (g.K.Keeper.failing c.args.self.now.keeper) c.from_residual-in_err-lines.ensures.1

pub returns-clause-calls : goal.returns-clause-calls
returns-clause-calls g c =
    let n = c.args.self.now in
    let kind = c.args.kind in
    let e : Entry = c.args.entry.now in
    let clock = c.stamp-clock.result in
    let place = file_path (log_of kind (option_copied c.args.key)) in
    let is =
    ap (λ (b : Files). with_next_stamp kind (lines_at b c.bytes.result.now) clock e) c.branch-branch.ensures
    ∙ ap (λ (p : List ℕ). with_next_stamp kind (lines_at n.branch p) clock e) (c.bytes.ensures ∙ c.in_ok-path.ensures.value ∙ ap file_path c.in_ok-file.ensures.value)
    ∙ ap (λ (t : ℕ). with_next_stamp kind (lines_at n.branch place) t e) (c.stamp-clock.ensures ∙ ap (λ v. stamp_at (v.time + v.setup.offset)) c.self.view_is) in
    logged_as c.add_lines.result n c.in_ok-file.file (log_of kind (option_copied c.args.key)) c.in_ok-lines.lines (line_text kind (stamped_by n kind (option_copied c.args.key) e) ∷ []) (g.K.Keeper.failing c.args.self.now.keeper) (g.K.Keeper.failing c.add_lines.new.self.keeper)
    c.in_ok-file.ensures.value (c.in_ok-lines.ensures ∙ ap (λ (l : List ℕ). l ∷ []) (c.bytes-2.ensures ∙ c.in_ok-line.ensures ∙ ap (line_text kind) is)) c.add_lines.ensures.calls

pub returns-clause-full : goal.returns-clause-full
returns-clause-full g c =
    let n = c.args.self.now in
    let kind = c.args.kind in
    let e : Entry = c.args.entry.now in
    let clock = c.stamp-clock.result in
    let place = file_path (log_of kind (option_copied c.args.key)) in
    let is =
    ap (λ (b : Files). with_next_stamp kind (lines_at b c.bytes.result.now) clock e) c.branch-branch.ensures
    ∙ ap (λ (p : List ℕ). with_next_stamp kind (lines_at n.branch p) clock e) (c.bytes.ensures ∙ c.in_ok-path.ensures.value ∙ ap file_path c.in_ok-file.ensures.value)
    ∙ ap (λ (t : ℕ). with_next_stamp kind (lines_at n.branch place) t e) (c.stamp-clock.ensures ∙ ap (λ v. stamp_at (v.time + v.setup.offset)) c.self.view_is) in
    λ full. lacks_as n c.in_ok-file.file (log_of kind (option_copied c.args.key)) c.in_ok-lines.lines (line_text kind (stamped_by n kind (option_copied c.args.key) e) ∷ [])
    c.in_ok-file.ensures.value (c.in_ok-lines.ensures ∙ ap (λ (l : List ℕ). l ∷ []) (c.bytes-2.ensures ∙ c.in_ok-line.ensures ∙ ap (line_text kind) is)) (c.add_lines.ensures.full full)
