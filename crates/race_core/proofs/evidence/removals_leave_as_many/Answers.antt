-- What the proof of `evidence::removals_leave_as_many` needs beside the tactics.
use Rattle.race_core.proofs.Numbers.{evidence_left, need_left}
use Rattle.race_core.proofs.evidence.removals_leave_as_many.Goals as goal

pub returns-clause-evidence : goal.returns-clause-evidence
returns-clause-evidence c = evidence_left c.sent_messages_are_read.ensures.read

pub returns-clause-need : goal.returns-clause-need
returns-clause-need c = need_left c.sent_messages_are_read.ensures.read
