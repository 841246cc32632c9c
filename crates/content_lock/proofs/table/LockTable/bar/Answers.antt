-- What the proof of `table::LockTable::bar` needs beside the tactics.
use Rattle.content_lock.proofs.StoredLemmas.{bar_given, bar_others}
use Rattle.content_lock.proofs.table.LockTable.bar.Goals as goal

pub returns-clause-others : goal.returns-clause-others
returns-clause-others g c =
    let found = rw c.in-Ok-Present.field-0-is at c.in-Ok-Present.ensures.found in
    bar_others c.args.self.now c.put_bar.new.self c.args.key.now c.args.job c.in_ok-put_bar.ensures.after found.1

pub returns-clause-given : goal.returns-clause-given
returns-clause-given g c = bar_given c.args.self.now c.put_bar.new.self c.args.key.now c.args.job c.in_ok-put_bar.ensures.after
