-- What the proof of `table::LockTable::recover` needs beside the tactics.
use Rattle.std.proofs.Common.{map, sym, ap, subst, ◌∙◌}
use Rattle.object_store.specs.Stores.{AreFalling}
use Rattle.content_lock.specs.Stored.{kept_hold, label_of}
use Rattle.content_lock.proofs.RecoveredLemmas.{labels_recovered, left_by_crash}
use Rattle.content_lock.proofs.TokenLemmas.{nobody_owns}
use Rattle.content_lock.proofs.table.LockTable.recover.Goals as goal

pub returns-clause-crash : goal.returns-clause-crash
returns-clause-crash g c = λ x is was same.
    let items = c.in-Ok.ensures.ok x is in
    c.in_ok-recover.ensures.same (subst AreFalling (sym items) (c.in-Ok.ensures.falling x is)) ∙ ap (map (kept_hold c.args.now)) items ∙ left_by_crash c.args.now x was same

pub returns-clause-nobody : goal.returns-clause-nobody
returns-clause-nobody g c = λ by. nobody_owns by c.in_ok-recover.field-0 c.in_ok-recover.ensures.kept

pub returns-clause-agrees : goal.returns-clause-agrees
returns-clause-agrees g c = λ x is.
    let was = sym c.in-Ok.ensures.records ∙ is in
    let items = c.in-Ok.ensures.ok x was in
    let holds = c.in_ok-recover.ensures.same (subst AreFalling (sym items) (c.in-Ok.ensures.falling x was)) ∙ ap (map (kept_hold c.args.now)) items in
    labels_recovered c.args.now x ∙ ap (map label_of) (sym holds)
