-- What the proof of `laws::sent_messages_are_read` needs beside the tactics.
use Rattle.p2p_wire.proofs.MessageFacts.{line_short, sent_back}
use Rattle.p2p_wire.proofs.laws.sent_messages_are_read.Goals as goal

pub returns-clause-read : goal.returns-clause-read
returns-clause-read c = sent_back

pub returns-clause-short : goal.returns-clause-short
returns-clause-short c = line_short
