-- What the proof of `laws::required_content_stays` needs beside the tactics.
use Rattle.race_core.proofs.NeedsRead.{not_required}
use Rattle.race_core.proofs.laws.required_content_stays.Goals as goal

pub returns : goal.returns
returns c = not_required c.sent_messages_are_read.ensures.read
