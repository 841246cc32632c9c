-- What the proof of `journals_are_read` needs beside the tactics.
use Rattle.journal_reading.proofs.RunLemmas.{are_read}
use Rattle.journal_reading.proofs.journals_are_read.Goals as goal

pub returns : goal.returns
returns c = are_read
