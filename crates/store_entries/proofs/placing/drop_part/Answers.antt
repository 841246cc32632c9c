-- What the proof of `placing::drop_part` needs beside the tactics.
use Rattle.std.proofs.Common.{refl}
use Rattle.annex_base.specs.declared.kinds.Call.TheVariants.{DropPart}
use Rattle.node_past.proofs.CallLemmas.{makes_one, stops_failed}
use Rattle.store_entries.proofs.placing.drop_part.Goals as goal

pub returns-in-Err-clause-err : goal.returns-in-Err-clause-err
returns-in-Err-clause-err g c = record { call = DropPart; scripts = refl; fails = c.fail.ensures.entry }

pub returns-in-Ok-clause-calls : goal.returns-in-Ok-clause-calls
returns-in-Ok-clause-calls g c = makes_one DropPart _ _ c.in-Ok.ensures.failing

pub returns-in-Err-clause-calls : goal.returns-in-Err-clause-calls
returns-in-Err-clause-calls g c = stops_failed DropPart c.fail.result _ _ c.in-Err.ensures.failing c.fail.ensures.answer
