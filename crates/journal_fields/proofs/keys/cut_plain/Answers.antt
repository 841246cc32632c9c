-- What the proof of `keys::cut_plain` needs beside the tactics.
use Rattle.std.proofs.lemmas.List.Sums.{prefix_len-le-length}
use Rattle.annex_base.specs.Lines.{is_not_space}
use Rattle.journal_fields.proofs.keys.cut_plain.Goals as goal

pub split_at-requires : goal.split_at-requires
split_at-requires c = rw c.plain_len-end.ensures (prefix_len-le-length is_not_space c.args.bytes.now)
