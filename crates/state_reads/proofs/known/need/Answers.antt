-- What the proof of `known::need` needs beside the tactics.
use Rattle.node_model.specs.Knows.{need_by}
use Rattle.state_reads.proofs.known.need.Goals as goal

pub returns : goal.returns
unfolding need_by
returns c = λ i. record { n = c.numcopies_of-n.ensures i; m = c.mincopies_of-m.ensures i }
