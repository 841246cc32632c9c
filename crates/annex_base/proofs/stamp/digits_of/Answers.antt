-- What the proof of `stamp::digits_of` needs beside the tactics.
use Rattle.std.specs.Char.{is_ascii_digit}
use Rattle.std.proofs.lemmas.List.Sums.{prefix_len-le-length}
use Rattle.annex_base.proofs.StampLemmas.{front_digits}
use Rattle.annex_base.proofs.stamp.digits_of.Goals as goal

pub split_at-requires : goal.split_at-requires
split_at-requires c = rw c.digits_len-count.ensures (prefix_len-le-length is_ascii_digit c.args.bytes.now)

pub returns-then-count-most-clause-digits : goal.returns-then-count-most-clause-digits
returns-then-count-most-clause-digits c = rw (c.split_at.ensures.front, c.digits_len-count.ensures) (front_digits c.args.bytes.now)
