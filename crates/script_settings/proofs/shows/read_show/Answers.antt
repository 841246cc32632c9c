-- What the proof of `shows::read_show` needs beside the tactics.
use Rattle.script_settings.proofs.shows.read_show.Goals as goal

pub returns-in-Totals : goal.returns-in-Totals
returns-in-Totals c = rw c.in-Totals.is (c.show_totals.ensures c.args.context.now)

pub returns-in-Journal : goal.returns-in-Journal
returns-in-Journal c = rw c.in-Journal.is (c.show_journal.ensures c.args.context.now)
