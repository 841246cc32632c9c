-- What the proof of `ledger::Ledger::write_raw` needs beside the tactics.
use Rattle.std.proofs.Common.{[], ◌∷◌}
use Rattle.run_data.specs.Files.{file_of}
use Rattle.node_ledger.proofs.LogLemmas.{ok_told}
use Rattle.annex_base.specs.declared.kinds.Call.TheVariants.{PutFile}
use Rattle.node_ledger.specs.Calls.{to_log}
use Rattle.node_past.proofs.CallLemmas.{makes_short}
use Rattle.node_ledger.proofs.WalkCallLemmas.{lacks_as, logged_as}
use Rattle.node_ledger.proofs.ledger.Ledger.write_raw.Goals as goal

pub add_lines-requires : goal.add_lines-requires
add_lines-requires g c = c.in_ok-file.ensures.path c.requires.path

pub returns-clause-ok : goal.returns-clause-ok
returns-clause-ok g c =
    ok_told c.add_lines.result c.args.self.now c.add_lines.new.self c.in_ok-file.file (file_of c.args.path.now) c.in_ok-lines.lines (c.args.line.now ∷ []) c.in_ok-file.ensures.value c.in_ok-lines.ensures c.add_lines.ensures.ok

pub returns-in_err-lines-clause-calls : goal.returns-in_err-lines-clause-calls
returns-in_err-lines-clause-calls g c = makes_short (to_log c.args.self.now (file_of c.args.path.now) (c.args.line.now ∷ [])) PutFile c.from_residual.result (g.K.Keeper.failing c.args.self.now.keeper) c.from_residual.ensures.1

pub returns-in_err-file-clause-calls : goal.returns-in_err-file-clause-calls
returns-in_err-file-clause-calls g c = makes_short (to_log c.args.self.now (file_of c.args.path.now) (c.args.line.now ∷ [])) PutFile c.from_residual-in_err-file.result (g.K.Keeper.failing c.args.self.now.keeper) c.from_residual-in_err-file.ensures.1

pub returns-clause-calls : goal.returns-clause-calls
returns-clause-calls g c = logged_as c.add_lines.result c.args.self.now c.in_ok-file.file (file_of c.args.path.now) c.in_ok-lines.lines (c.args.line.now ∷ []) (g.K.Keeper.failing c.args.self.now.keeper) (g.K.Keeper.failing c.add_lines.new.self.keeper) c.in_ok-file.ensures.value c.in_ok-lines.ensures c.add_lines.ensures.calls

pub returns-clause-full : goal.returns-clause-full
returns-clause-full g c = λ full. lacks_as c.args.self.now c.in_ok-file.file (file_of c.args.path.now) c.in_ok-lines.lines (c.args.line.now ∷ []) c.in_ok-file.ensures.value c.in_ok-lines.ensures (c.add_lines.ensures.full full)
