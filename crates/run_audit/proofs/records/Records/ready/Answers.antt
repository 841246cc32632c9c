-- What the proof of `records::Records::ready` needs beside the tactics.
use Rattle.std.proofs.Common.{refl}
use Rattle.run_audit.proofs.Placing.{on_ok_weaker, place_for, place_none, stay_same}
use Rattle.run_audit.proofs.records.Records.ready.Goals as goal

pub returns-in-Some-clause-place : goal.returns-in-Some-clause-place
returns-in-Some-clause-place c = on_ok_weaker c.make_place.result (place_for c.args.kind.now c.in-Some.key.now c.make_place.new.kept.entries c.in-Some.ensures) c.make_place.ensures.place

pub returns-in-Some-clause-same : goal.returns-in-Some-clause-same
returns-in-Some-clause-same c = record { repos = refl; each = c.make_place.ensures.same }

pub returns-in-None-clause-place : goal.returns-in-None-clause-place
returns-in-None-clause-place c = place_none c.args.kind.now c.args.self.now.kept.entries c.in-None.ensures

pub returns-in-None-clause-same : goal.returns-in-None-clause-same
returns-in-None-clause-same c = record { repos = refl; each = stay_same c.args.self.now.repos c.args.self.now.kept.entries }
