-- What the proof of `placing::is_taken` needs beside the tactics.
use Rattle.std.proofs.Common.{refl}
use Rattle.annex_base.specs.declared.kinds.Call.TheVariants.{Has}
use Rattle.node_past.proofs.CallLemmas.{makes_one, stops_failed}
use Rattle.store_entries.proofs.placing.is_taken.Goals as goal

pub returns-in-Err-clause-err : goal.returns-in-Err-clause-err
returns-in-Err-clause-err g c = record { call = Has; scripts = refl; fails = c.fail.ensures.entry }

pub returns-then-here-clause-calls : goal.returns-then-here-clause-calls
returns-then-here-clause-calls g c = makes_one Has _ _ c.in-Ok.ensures.failing

pub returns-else-here-clause-calls : goal.returns-else-here-clause-calls
returns-else-here-clause-calls g c = makes_one Has _ _ c.in-Ok.ensures.failing

pub returns-in-Err-clause-calls : goal.returns-in-Err-clause-calls
returns-in-Err-clause-calls g c = stops_failed Has c.fail.result _ _ c.in-Err.ensures.failing c.fail.ensures.answer
