-- What the proof of `evidence::recent_items_were_seen` needs beside the tactics.
use Rattle.race_core.proofs.ItemSources.{item_seen}
use Rattle.race_core.proofs.evidence.recent_items_were_seen.Goals as goal

pub returns : goal.returns
returns c = item_seen c.sent_messages_are_read.ensures.read
