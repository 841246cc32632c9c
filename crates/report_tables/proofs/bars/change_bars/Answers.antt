-- What the proof of `bars::change_bars` needs beside the tactics.
use Rattle.std.proofs.Common.{Some, None, refl}
use Rattle.report_tables.proofs.RowTables.{barred}
use Rattle.report_tables.proofs.bars.change_bars.Goals as goal

pub returns-in_ok-insert-in-Bar : goal.returns-in_ok-insert-in-Bar
returns-in_ok-insert-in-Bar c = λ key.
    rw c.in-Bar.is (barred c.args.bars.now c.insert.new.self c.in-Bar.key c.in_ok-copy-in-Bar.field-0 key (Some c.in-Bar.job) c.in_ok-copy-in-Bar.ensures c.in_ok-insert-in-Bar.ensures.updates)

pub returns-in-Gone : goal.returns-in-Gone
returns-in-Gone c = λ key. rw c.in-Gone.is (barred c.args.bars.now c.remove.new.self c.in-Gone.key c.in-Gone.key key None refl c.remove.ensures.updates)
