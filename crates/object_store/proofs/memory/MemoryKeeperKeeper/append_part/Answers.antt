-- What the proof of `memory::MemoryKeeperKeeper::append_part` needs beside the tactics.
use Rattle.object_store.specs.ByKey.{part_at}
use Rattle.object_store.proofs.ByKeyLemmas.{told_short}
use Rattle.object_store.proofs.memory.MemoryKeeperKeeper.append_part.Goals as goal

pub returns-clause-small : goal.returns-clause-small
returns-clause-small c x e = told_short (part_at c.append.new.parts.entries) x e c.append.ensures.short
