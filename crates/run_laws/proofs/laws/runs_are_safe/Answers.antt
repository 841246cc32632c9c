-- What the proof of `laws::runs_are_safe` needs beside the tactics.
use Rattle.run_laws.proofs.FromStep.{runs_are_safe}
use Rattle.run_laws.proofs.laws.runs_are_safe.Goals as goal

pub returns : goal.returns
returns c = runs_are_safe c.sent_messages_are_read.ensures.read
