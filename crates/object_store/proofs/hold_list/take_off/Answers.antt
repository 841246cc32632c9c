-- What the proof of `hold_list::take_off` needs beside the tactics.
use Rattle.std.proofs.Common.{ap, ◌∙◌}
use Rattle.object_store.specs.HoldList.{records_of}
use Rattle.object_store.proofs.RecordLemmas.{removed}
use Rattle.object_store.proofs.hold_list.take_off.Goals as goal

pub returns : goal.returns
returns c = ap records_of c.remove.ensures.entries ∙ removed c.args.holds.now.entries c.args.number c.len.ensures.ordered
