-- What the proof of `laws::answers_account_for_the_bytes` needs beside the tactics.
use Rattle.p2p_wire.proofs.AccountLemmas.{accounts}
use Rattle.p2p_wire.proofs.laws.answers_account_for_the_bytes.Goals as goal

pub returns : goal.returns
returns c events = accounts events
