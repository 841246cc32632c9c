-- What the proof of `laws::file_names_are_exact` needs beside the tactics.
use Rattle.log_grammar.proofs.FileLemmas.{kind_of_name}
use Rattle.log_grammar.proofs.laws.file_names_are_exact.Goals as goal

pub returns : goal.returns
returns c = kind_of_name
