-- What the proof of `by_key::put` needs beside the tactics.
use Rattle.std.proofs.Common.{Some}
use Rattle.object_store.proofs.ByKeyLemmas.{updated}
use Rattle.object_store.proofs.by_key.put.Goals as goal

pub returns-clause-ok : goal.returns-clause-ok
returns-clause-ok c = updated c.args.map.now.entries c.insert.new.self.entries c.args.key (Some c.args.blocks) c.in_ok-insert.ensures.updates.0
