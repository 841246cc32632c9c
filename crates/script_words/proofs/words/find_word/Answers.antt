-- What the proof of `words::find_word` needs beside the tactics.
use Rattle.std.proofs.lemmas.List.Sums.{prefix_len-le-length}
use Rattle.annex_base.specs.Lines.{is_space}
use Rattle.script_words.proofs.words.find_word.Goals as goal

pub split_at-requires-2 : goal.split_at-requires-2
split_at-requires-2 c = rw c.spaces_len-spaces.ensures (prefix_len-le-length is_space c.split_at.result.1.now)
