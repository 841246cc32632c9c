-- What the proof of `method::told_digest` needs beside the tactics.
use Rattle.std.specs.Prelude.{not}
use Rattle.std.proofs.lemmas.List.Sums.{prefix_len-le-length}
use Rattle.key_verify.specs.Digests.{is_dot}
use Rattle.key_verify.proofs.method.told_digest.Goals as goal

pub split_at-requires : goal.split_at-requires
split_at-requires c = rw c.word_len-end.ensures (prefix_len-le-length (λ b. not (is_dot b)) c.args.name.now)
