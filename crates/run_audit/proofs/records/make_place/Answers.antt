-- What the proof of `records::make_place` needs beside the tactics.
use Rattle.std.proofs.Common.{sym}
use Rattle.run_audit.proofs.Placing.{stay_same}
use Rattle.run_audit.proofs.records.make_place.Goals as goal

pub returns-in-Some-clause-place : goal.returns-in-Some-clause-place
returns-in-Some-clause-place c = (c.in-Some._found.now, sym c.in-Some.ensures.value)

pub returns-in-Some-clause-same : goal.returns-in-Some-clause-same
returns-in-Some-clause-same c = stay_same c.args.repos c.args.kept.now.entries

pub add-requires : goal.add-requires
add-requires c = sym c.in-None.ensures.value
