-- What the proof of `texts::split_group` needs beside the tactics.
use Rattle.std.specs.Prelude.{not}
use Rattle.std.proofs.lemmas.List.Sums.{prefix_len-le-length}
use Rattle.annex_base.specs.Lines.{is_space}
use Rattle.log_grammar.proofs.texts.split_group.Goals as goal

pub split_at-requires : goal.split_at-requires
split_at-requires c = rw c.first_len-end.ensures (prefix_len-le-length (λ b. not (is_space b)) c.args.bytes.now)
