-- What the proof of `laws::ends_stay_joined` needs beside the tactics.
use Rattle.node_ends.proofs.Joining.{joined_call, joined_elsewhere}
use Rattle.node_ends.proofs.laws.ends_stay_joined.Goals as goal

pub returns-clause-call : goal.returns-clause-call
returns-clause-call c = joined_call

pub returns-clause-elsewhere : goal.returns-clause-elsewhere
returns-clause-elsewhere c = joined_elsewhere
