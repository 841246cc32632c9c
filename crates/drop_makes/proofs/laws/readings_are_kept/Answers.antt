-- What the proof of `laws::readings_are_kept` needs beside the tactics.
use Rattle.drop_makes.proofs.ReadingLemmas.{drop_is}
use Rattle.drop_makes.proofs.laws.readings_are_kept.Goals as goal

pub returns : goal.returns
returns c = λ x known s st are. drop_is x known s st are
