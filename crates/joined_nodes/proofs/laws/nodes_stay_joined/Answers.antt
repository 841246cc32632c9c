-- What the proof of `laws::nodes_stay_joined` needs beside the tactics.
use Rattle.joined_nodes.proofs.Staying.{stay_joined}
use Rattle.joined_nodes.proofs.laws.nodes_stay_joined.Goals as goal

pub returns : goal.returns
returns g c = stay_joined (record { other = c.ends_stay_joined.ensures.other; call = c.ends_stay_joined.ensures.call }) g.row.K.Denot
