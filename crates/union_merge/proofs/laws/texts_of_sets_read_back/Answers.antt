-- What the proof of `laws::texts_of_sets_read_back` needs beside the tactics.
use Rattle.union_merge.proofs.LineLemmas.{set_of-text_of}
use Rattle.union_merge.proofs.laws.texts_of_sets_read_back.Goals as goal

pub returns : goal.returns
returns c = set_of-text_of
