-- What the proof of `placing::append_part` needs beside the tactics.
use Rattle.std.proofs.Common.{refl}
use Rattle.annex_base.specs.declared.kinds.Call.TheVariants.{Append}
use Rattle.node_past.proofs.CallLemmas.{makes_one, stops_one}
use Rattle.store_entries.proofs.placing.append_part.Goals as goal

pub returns-in-Err-clause-err : goal.returns-in-Err-clause-err
returns-in-Err-clause-err g c = record { call = Append; scripts = refl; fails = c.fail.ensures.entry }

pub returns-in-Ok-clause-calls : goal.returns-in-Ok-clause-calls
returns-in-Ok-clause-calls g c = makes_one Append _ _ c.in-Ok.ensures.failing

pub returns-in-Err-clause-calls : goal.returns-in-Err-clause-calls
returns-in-Err-clause-calls g c = stops_one (Unit {0}) Append c.in-Err.fault c.fail.result _ _ c.in-Err.ensures.failing c.fail.ensures.answer
