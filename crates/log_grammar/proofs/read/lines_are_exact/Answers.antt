-- What the proof of `read::lines_are_exact` needs beside the tactics.
use Rattle.log_grammar.proofs.FormLemmas.{one_entry}
use Rattle.log_grammar.proofs.read.lines_are_exact.Goals as goal

pub returns : goal.returns
returns c = one_entry
