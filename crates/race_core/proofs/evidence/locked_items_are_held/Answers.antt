-- What the proof of `evidence::locked_items_are_held` needs beside the tactics.
use Rattle.race_core.proofs.ItemSources.{item_held}
use Rattle.race_core.proofs.evidence.locked_items_are_held.Goals as goal

pub returns : goal.returns
returns c = item_held c.sent_messages_are_read.ensures.read
