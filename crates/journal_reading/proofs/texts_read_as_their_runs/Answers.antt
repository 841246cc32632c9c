-- What the proof of `texts_read_as_their_runs` needs beside the tactics.
use Rattle.journal_reading.proofs.RunLemmas.{are_printed}
use Rattle.journal_reading.proofs.texts_read_as_their_runs.Goals as goal

pub returns : goal.returns
returns c = are_printed
