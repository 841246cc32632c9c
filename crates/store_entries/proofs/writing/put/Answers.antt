-- What the proof of `writing::put` needs beside the tactics.
use Rattle.annex_base.specs.declared.kinds.Call.TheVariants.{PutFile}
use Rattle.node_past.proofs.CallLemmas.{makes_one, stops_one}
use Rattle.store_entries.proofs.writing.put.Goals as goal

pub returns-in-Ok-clause-calls : goal.returns-in-Ok-clause-calls
returns-in-Ok-clause-calls g c = makes_one PutFile _ _ c.in-Ok.ensures.failing

pub returns-in-Err-clause-calls : goal.returns-in-Err-clause-calls
returns-in-Err-clause-calls g c = stops_one (Unit {0}) PutFile c.in-Err.fault c.fail.result _ _ c.in-Err.ensures.failing c.fail.ensures.answer
