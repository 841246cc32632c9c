-- What the proof of `laws::files_name_their_keys` needs beside the tactics.
use Rattle.annex_key.proofs.FileKeyLemmas.{key_of_file-is}
use Rattle.annex_key.proofs.laws.files_name_their_keys.Goals as goal

pub returns : goal.returns
returns c = key_of_file-is
