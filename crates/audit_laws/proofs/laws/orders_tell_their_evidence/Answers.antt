-- What the proof of `laws::orders_tell_their_evidence` needs beside the tactics.
use Rattle.audit_laws.proofs.Told.{order_told}
use Rattle.audit_laws.proofs.laws.orders_tell_their_evidence.Goals as goal

pub returns : goal.returns
returns c = λ run e a j target deadline need key h step repo kind.
    order_told c.sent_messages_are_read.ensures.read c.carried_states_agree.ensures.own_states run h e step a j target deadline need key repo kind
