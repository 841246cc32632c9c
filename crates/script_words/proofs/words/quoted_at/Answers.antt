-- What the proof of `words::quoted_at` needs beside the tactics.
use Rattle.std.proofs.lemmas.List.Sums.{prefix_len-le-length}
use Rattle.script_words.specs.Words.{is_not_quote}
use Rattle.script_words.proofs.words.quoted_at.Goals as goal

pub split_at-requires : goal.split_at-requires
split_at-requires c = rw c.quoted_len-end.ensures (prefix_len-le-length is_not_quote c.args.bytes.now)
