-- What the proof of `journals_differ` needs beside the tactics.
use Rattle.journal_reading.proofs.RunLemmas.{are_apart}
use Rattle.journal_reading.proofs.journals_differ.Goals as goal

pub returns : goal.returns
returns c = are_apart
