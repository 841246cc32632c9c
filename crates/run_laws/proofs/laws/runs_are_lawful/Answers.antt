-- What the proof of `laws::runs_are_lawful` needs beside the tactics.
use Rattle.run_laws.proofs.FromStep.{runs_are_lawful}
use Rattle.run_laws.proofs.laws.runs_are_lawful.Goals as goal

pub returns : goal.returns
returns c = runs_are_lawful c.sent_messages_are_read.ensures.read
