-- What the proof of `lines::lines_of` needs beside the tactics.
use Rattle.branch_lines.proofs.SetLemmas.{no_lines}
use Rattle.branch_lines.proofs.lines.lines_of.Goals as goal

pub returns-in-None-clause-set : goal.returns-in-None-clause-set
returns-in-None-clause-set c = no_lines
