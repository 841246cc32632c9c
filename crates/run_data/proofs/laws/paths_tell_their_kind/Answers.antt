-- What the proof of `laws::paths_tell_their_kind` needs beside the tactics.
use Rattle.run_data.proofs.FileLemmas.{kind_there}
use Rattle.run_data.proofs.laws.paths_tell_their_kind.Goals as goal

pub returns : goal.returns
returns c = kind_there
