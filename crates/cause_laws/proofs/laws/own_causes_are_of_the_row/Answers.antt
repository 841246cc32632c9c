-- What the proof of `laws::own_causes_are_of_the_row` needs beside the tactics.
use Rattle.cause_laws.proofs.OwnRows.{bars_there, own_row}
use Rattle.cause_laws.proofs.laws.own_causes_are_of_the_row.Goals as goal

pub returns-clause-bars : goal.returns-clause-bars
returns-clause-bars c = bars_there c.sent_messages_are_read.ensures.read

pub returns-clause-causes : goal.returns-clause-causes
returns-clause-causes c = own_row c.sent_messages_are_read.ensures.read
