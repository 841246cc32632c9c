-- What the proof of `laws::globs_are_read` needs beside the tactics.
use Rattle.glob_match.proofs.SpelledLemmas.{items_exact}
use Rattle.glob_match.proofs.laws.globs_are_read.Goals as goal

pub returns : goal.returns
returns c = items_exact
