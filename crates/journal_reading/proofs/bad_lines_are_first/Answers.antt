-- What the proof of `bad_lines_are_first` needs beside the tactics.
use Rattle.journal_reading.proofs.BadLemmas.{are_first}
use Rattle.journal_reading.proofs.bad_lines_are_first.Goals as goal

pub returns : goal.returns
returns c = are_first
