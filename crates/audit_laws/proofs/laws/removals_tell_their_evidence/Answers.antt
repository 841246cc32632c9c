-- What the proof of `laws::removals_tell_their_evidence` needs beside the tactics.
use Rattle.audit_laws.proofs.Told.{removal_told}
use Rattle.audit_laws.proofs.laws.removals_tell_their_evidence.Goals as goal

pub returns : goal.returns
returns c = λ run e r j key h step repo kind. removal_told c.sent_messages_are_read.ensures.read c.carried_states_agree.ensures.own_states run h e step r j key repo kind
