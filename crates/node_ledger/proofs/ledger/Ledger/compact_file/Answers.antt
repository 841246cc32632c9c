-- What the proof of `ledger::Ledger::compact_file` needs beside the tactics.
use Rattle.std.proofs.Common.{List, ℕ, sym, ap, ◌∙◌}
use Rattle.run_data.specs.Files.{file_path, file_of}
use Rattle.union_merge.specs.Branch.{Files, lines_at}
use Rattle.node_ledger.proofs.WalkLemmas.{not_shrunk, ok_compacted}
use Rattle.annex_base.specs.declared.kinds.Call.TheVariants.{PutFile}
use Rattle.node_ledger.specs.Calls.{shrinks}
use Rattle.node_past.specs.Calls.{to_write}
use Rattle.node_past.proofs.CallLemmas.{makes_short}
use Rattle.node_ledger.proofs.WalkCallLemmas.{kept_whole, shrinks_so, shrunk_so, shrunk_none}
use Rattle.node_ledger.proofs.ledger.Ledger.compact_file.Goals as goal

pub shrink-requires-clause-here : goal.shrink-requires-clause-here
shrink-requires-clause-here g c = sym (ap file_path c.in_ok-file.ensures.value ∙ c.files_have_their_paths.ensures.path c.args.path.now)

pub shrink-requires-clause-named : goal.shrink-requires-clause-named
shrink-requires-clause-named g c = c.in_ok-file.ensures.value

pub returns-then-outdated-clause-ok : goal.returns-then-outdated-clause-ok
returns-then-outdated-clause-ok g c =
    let here = sym (ap file_path c.in_ok-file.ensures.value ∙ c.files_have_their_paths.ensures.path c.args.path.now) in
    ok_compacted c.shrink.result c.args.self.now c.shrink.new.self c.args.path.now c.in_ok-file.file c.in-Some.kind c.lines_of-lines.result.now c.in_ok-outdated.outdated
    c.in_ok-file.ensures.value (sym c.kind.ensures ∙ c.in-Some.is)
    (c.lines_of-lines.ensures.lines ∙ ap (λ (x : Files). lines_at x c.args.path.now) c.branch-branch.ensures ∙ ap (λ (p : List ℕ). lines_at c.args.self.now.branch p) here)
    c.in_ok-outdated.ensures.fewer c.if-outdated.true c.shrink.ensures.ok

pub returns-clause-ok : goal.returns-clause-ok
returns-clause-ok g c =
    let here = sym (ap file_path c.in_ok-file.ensures.value ∙ c.files_have_their_paths.ensures.path c.args.path.now) in
    not_shrunk c.args.self.now c.args.path.now c.in_ok-file.file c.in-Some.kind c.lines_of-lines.result.now c.in_ok-outdated.outdated
    c.in_ok-file.ensures.value (sym c.kind.ensures ∙ c.in-Some.is)
    (c.lines_of-lines.ensures.lines ∙ ap (λ (x : Files). lines_at x c.args.path.now) c.branch-branch.ensures ∙ ap (λ (p : List ℕ). lines_at c.args.self.now.branch p) here)
    c.in_ok-outdated.ensures.fewer c.if-outdated.false

pub returns-in_err-file-clause-calls : goal.returns-in_err-file-clause-calls
returns-in_err-file-clause-calls g c = makes_short (to_write (shrinks c.args.self.now (file_of c.args.path.now))) PutFile c.from_residual.result (g.K.Keeper.failing c.args.self.now.keeper) c.from_residual.ensures.1

pub returns-in_err-outdated-clause-calls : goal.returns-in_err-outdated-clause-calls
returns-in_err-outdated-clause-calls g c = makes_short (to_write (shrinks c.args.self.now (file_of c.args.path.now))) PutFile c.from_residual-in_err-outdated.result (g.K.Keeper.failing c.args.self.now.keeper) c.from_residual-in_err-outdated.ensures.1

pub returns-in_default-clause-calls : goal.returns-in_default-clause-calls
returns-in_default-clause-calls g c = kept_whole c.args.self.now c.args.path.now c.in_ok-file.file (g.K.Keeper.failing c.args.self.now.keeper) c.in_ok-file.ensures.value (sym c.kind.ensures ∙ c.in_default.is)

pub returns-then-outdated-clause-calls : goal.returns-then-outdated-clause-calls
returns-then-outdated-clause-calls g c =
    let here = sym (ap file_path c.in_ok-file.ensures.value ∙ c.files_have_their_paths.ensures.path c.args.path.now) in
    shrunk_so c.shrink.result c.args.self.now c.args.path.now c.in_ok-file.file c.in-Some.kind c.lines_of-lines.result.now c.in_ok-outdated.outdated (g.K.Keeper.failing c.args.self.now.keeper) (g.K.Keeper.failing c.shrink.new.self.keeper)
    c.in_ok-file.ensures.value (sym c.kind.ensures ∙ c.in-Some.is) (c.lines_of-lines.ensures.lines ∙ ap (λ (x : Files). lines_at x c.args.path.now) c.branch-branch.ensures ∙ ap (λ (p : List ℕ). lines_at c.args.self.now.branch p) here)
    c.in_ok-outdated.ensures.fewer c.if-outdated.true c.shrink.ensures.calls

pub returns-clause-calls : goal.returns-clause-calls
returns-clause-calls g c =
    let here = sym (ap file_path c.in_ok-file.ensures.value ∙ c.files_have_their_paths.ensures.path c.args.path.now) in
    shrunk_none c.args.self.now c.args.path.now c.in_ok-file.file c.in-Some.kind c.lines_of-lines.result.now c.in_ok-outdated.outdated (g.K.Keeper.failing c.args.self.now.keeper)
    c.in_ok-file.ensures.value (sym c.kind.ensures ∙ c.in-Some.is) (c.lines_of-lines.ensures.lines ∙ ap (λ (x : Files). lines_at x c.args.path.now) c.branch-branch.ensures ∙ ap (λ (p : List ℕ). lines_at c.args.self.now.branch p) here)
    c.in_ok-outdated.ensures.fewer c.if-outdated.false

pub returns-then-outdated-clause-full : goal.returns-then-outdated-clause-full
returns-then-outdated-clause-full g c =
    let here = sym (ap file_path c.in_ok-file.ensures.value ∙ c.files_have_their_paths.ensures.path c.args.path.now) in
    λ full. sym (shrinks_so c.args.self.now c.args.path.now c.in_ok-file.file c.in-Some.kind c.lines_of-lines.result.now c.in_ok-outdated.outdated
    c.in_ok-file.ensures.value (sym c.kind.ensures ∙ c.in-Some.is) (c.lines_of-lines.ensures.lines ∙ ap (λ (x : Files). lines_at x c.args.path.now) c.branch-branch.ensures ∙ ap (λ (p : List ℕ). lines_at c.args.self.now.branch p) here)
    c.in_ok-outdated.ensures.fewer) ∙ c.if-outdated.true
