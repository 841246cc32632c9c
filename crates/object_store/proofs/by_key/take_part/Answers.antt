-- What the proof of `by_key::take_part` needs beside the tactics.
use Rattle.std.proofs.Common.{None}
use Rattle.object_store.proofs.ByKeyLemmas.{part_from, updated}
use Rattle.object_store.proofs.by_key.take_part.Goals as goal

pub returns-in-Some-clause-parts : goal.returns-in-Some-clause-parts
returns-in-Some-clause-parts c =
    part_from c.args.parts.now.entries c.remove.new.self.entries c.args.key.now None
    (updated c.args.parts.now.entries c.remove.new.self.entries c.args.key.now None c.remove.ensures.updates.0)
