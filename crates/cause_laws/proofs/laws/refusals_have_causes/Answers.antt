-- What the proof of `laws::refusals_have_causes` needs beside the tactics.
use Rattle.cause_laws.proofs.RunCauses.{refusals_caused}
use Rattle.cause_laws.proofs.laws.refusals_have_causes.Goals as goal

pub returns : goal.returns
returns c = refusals_caused c.sent_messages_are_read.ensures.read
