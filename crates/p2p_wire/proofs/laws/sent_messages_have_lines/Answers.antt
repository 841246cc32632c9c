-- What the proof of `laws::sent_messages_have_lines` needs beside the tactics.
use Rattle.p2p_wire.proofs.SentLemmas.{sent_line}
use Rattle.p2p_wire.proofs.laws.sent_messages_have_lines.Goals as goal

pub returns : goal.returns
returns c m w short one = sent_line (λ key none. c.key_texts_have_no_fault.ensures.line key ((c.key_texts_have_no_fault.ensures.sound key).0 none)) m w short one
