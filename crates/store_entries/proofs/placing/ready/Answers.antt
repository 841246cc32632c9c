-- What the proof of `placing::ready` needs beside the tactics.
use Rattle.store_entries.proofs.PartLemmas.{ready_stops}
use Rattle.store_entries.proofs.placing.ready.Goals as goal

pub returns-clause-err : goal.returns-clause-err
returns-clause-err c = ready_stops c.ready.result c.args.past.now c.ready.new.self c.ready.ensures.err
