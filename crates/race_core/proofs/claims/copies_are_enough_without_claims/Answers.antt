-- What the proof of `claims::copies_are_enough_without_claims` needs beside the tactics.
use Rattle.race_core.proofs.ClaimSources.{copies_enough}
use Rattle.race_core.proofs.claims.copies_are_enough_without_claims.Goals as goal

pub returns : goal.returns
returns c = copies_enough c.sent_messages_are_read.ensures.read
