-- What the proof of `laws::frames_wait_at_ends` needs beside the tactics.
use Rattle.node_ends.proofs.Waiting.{waits_so}
use Rattle.node_ends.proofs.laws.frames_wait_at_ends.Goals as goal

pub returns : goal.returns
returns c = waits_so
