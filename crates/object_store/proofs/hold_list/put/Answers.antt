-- What the proof of `hold_list::put` needs beside the tactics.
use Rattle.std.proofs.Common.{ap, ◌∙◌}
use Rattle.object_store.specs.HoldList.{records_of}
use Rattle.object_store.specs.Stores.{with_record}
use Rattle.object_store.proofs.RecordLemmas.{put_records}
use Rattle.object_store.proofs.hold_list.put.Goals as goal

pub returns-clause-ok : goal.returns-clause-ok
returns-clause-ok c =
    ap records_of c.in_ok-insert.ensures.entries ∙ put_records c.args.holds.now.entries _ _
    ∙ ap (λ k. with_record (records_of c.args.holds.now.entries) (record { number = c.args.hold.now.number; key = k; end = c.args.hold.now.end })) c.in_ok-key.ensures
