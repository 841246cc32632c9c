-- What the proof of `owed::Owed::change` needs beside the tactics.
use Rattle.std.proofs.Common.{length}
use Rattle.state_owed.proofs.owed.Owed.change.Goals as goal

pub returns-in_ok-goes-in-Log-clause-within : goal.returns-in_ok-goes-in-Log-clause-within
returns-in_ok-goes-in-Log-clause-within c = c.paid.ensures.within (length c.args.ids.now)

pub returns-in-Fault-clause-within : goal.returns-in-Fault-clause-within
returns-in-Fault-clause-within c = c.failed.ensures.within (length c.args.ids.now)
