-- What the proof of `laws::globs_are_unique` needs beside the tactics.
use Rattle.glob_match.proofs.ReadingLemmas.{glob_unique}
use Rattle.glob_match.proofs.laws.globs_are_unique.Goals as goal

pub returns : goal.returns
returns c = glob_unique
