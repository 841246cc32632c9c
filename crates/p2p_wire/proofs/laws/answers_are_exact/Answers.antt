-- What the proof of `laws::answers_are_exact` needs beside the tactics.
use Rattle.p2p_wire.proofs.ExactLemmas.{exact}
use Rattle.p2p_wire.proofs.laws.answers_are_exact.Goals as goal

pub returns : goal.returns
returns c = exact
