-- What the proof of `placing::commit` needs beside the tactics.
use Rattle.std.proofs.Common.{◌∷◌, []}
use Rattle.annex_base.specs.declared.kinds.Call.TheVariants.{Commit}
use Rattle.node_past.proofs.CallLemmas.{makes_early, makes_one, makes_short, stops_one}
use Rattle.store_entries.proofs.placing.commit.Goals as goal

pub returns-in_err-ready-clause-calls : goal.returns-in_err-ready-clause-calls
returns-in_err-ready-clause-calls g c = makes_early {Y = Unit {0}} (Commit ∷ []) Commit c.from_residual.result c.in_err-ready.field-0.0 (g.K.Keeper.failing c.args.keeper.now) c.from_residual.ensures.1 c.in_err-ready.ensures.no_fault

pub returns-in_err-copy-clause-calls : goal.returns-in_err-copy-clause-calls
returns-in_err-copy-clause-calls g c = makes_short (Commit ∷ []) Commit c.from_residual-in_err-copy.result (g.K.Keeper.failing c.args.keeper.now) c.from_residual-in_err-copy.ensures.1

pub returns-in-Ok-clause-calls : goal.returns-in-Ok-clause-calls
returns-in-Ok-clause-calls g c = makes_one Commit _ _ c.in-Ok.ensures.failing

pub returns-in-Err-clause-calls : goal.returns-in-Err-clause-calls
returns-in-Err-clause-calls g c = stops_one (Unit {0}) Commit c.in-Err.fault c.fail.result _ _ c.in-Err.ensures.failing c.fail.ensures.answer
