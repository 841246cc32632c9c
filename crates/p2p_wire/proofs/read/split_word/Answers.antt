-- What the proof of `read::split_word` needs beside the tactics.
use Rattle.std.specs.Prelude.{not}
use Rattle.std.proofs.lemmas.List.Sums.{prefix_len-le-length}
use Rattle.annex_base.specs.Lines.{is_space}
use Rattle.p2p_wire.proofs.read.split_word.Goals as goal

pub split_at-requires : goal.split_at-requires
split_at-requires c = rw c.word_len-end.ensures (prefix_len-le-length (λ b. not (is_space b)) c.args.text.now)
