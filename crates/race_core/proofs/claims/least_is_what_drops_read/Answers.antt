-- What the proof of `claims::least_is_what_drops_read` needs beside the tactics.
use Rattle.race_core.proofs.NeedsRead.{least_below, least_read, read_counts}
use Rattle.race_core.proofs.claims.least_is_what_drops_read.Goals as goal

pub returns-clause-read : goal.returns-clause-read
returns-clause-read c = least_read c.sent_messages_are_read.ensures.read

pub returns-clause-least : goal.returns-clause-least
returns-clause-least c = least_below c.sent_messages_are_read.ensures.read

pub returns-clause-count : goal.returns-clause-count
returns-clause-count c = read_counts c.sent_messages_are_read.ensures.read
