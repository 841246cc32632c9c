-- What the proof of `laws::lines_have_one_message` needs beside the tactics.
use Rattle.p2p_wire.proofs.LineFacts.{line_again}
use Rattle.p2p_wire.proofs.laws.lines_have_one_message.Goals as goal

pub returns : goal.returns
returns c = line_again
