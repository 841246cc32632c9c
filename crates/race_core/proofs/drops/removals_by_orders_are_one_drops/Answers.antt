-- What the proof of `drops::removals_by_orders_are_one_drops` needs beside the tactics.
use Rattle.race_core.proofs.OneDrop.{obeyed_once, order_obeyed}
use Rattle.race_core.proofs.drops.removals_by_orders_are_one_drops.Goals as goal

pub returns-clause-order : goal.returns-clause-order
returns-clause-order c = order_obeyed c.sent_messages_are_read.ensures.read

pub returns-clause-once : goal.returns-clause-once
returns-clause-once c = obeyed_once c.sent_messages_are_read.ensures.read
