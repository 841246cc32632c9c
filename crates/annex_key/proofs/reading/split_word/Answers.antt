-- What the proof of `reading::split_word` needs beside the tactics.
use Rattle.std.proofs.lemmas.List.Sums.{prefix_len-le-length}
use Rattle.std.specs.Prelude.{not}
use Rattle.annex_key.specs.Reading.{is_dash}
use Rattle.annex_key.proofs.reading.split_word.Goals as goal

pub split_at-requires : goal.split_at-requires
split_at-requires c = rw c.word_len-end.ensures (prefix_len-le-length (λ b. not (is_dash b)) c.args.bytes.now)
