-- What the proof of `laws::removals_take_their_orders` needs beside the tactics.
use Rattle.audit_laws.proofs.Frames.{order_taken}
use Rattle.audit_laws.proofs.laws.removals_take_their_orders.Goals as goal

pub returns : goal.returns
returns c = λ run e r p slot key h step repo kind. order_taken c.sent_messages_are_read.ensures.read run h e step r p slot key repo kind
