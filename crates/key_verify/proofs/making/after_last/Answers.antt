-- What the proof of `making::after_last` needs beside the tactics.
use Rattle.std.proofs.Common.{arith, reverse}
use Rattle.std.specs.Prelude.{not, ◌==◌}
use Rattle.std.proofs.lemmas.List.Sums.{prefix_len-le-length}
use Rattle.std.proofs.lemmas.List.{length-reverse}
use Rattle.key_verify.proofs.making.after_last.Goals as goal

pub overflow_sub-text : goal.overflow_sub-text
overflow_sub-text c =
    let short = prefix_len-le-length (λ b. not (b == c.args.byte)) (reverse c.args.text.now) in omega (arith, short, c.last_len-count.ensures, length-reverse c.args.text.now)
