-- What the proof of `state::last_word` needs beside the tactics.
use Rattle.std.proofs.Common.{arith, reverse}
use Rattle.std.proofs.lemmas.List.Sums.{prefix_len-le-length}
use Rattle.std.proofs.lemmas.List.{length-reverse}
use Rattle.annex_base.specs.Lines.{is_not_space}
use Rattle.script_lang.proofs.state.last_word.Goals as goal

pub overflow_sub-result : goal.overflow_sub-result
overflow_sub-result c =
    let short = prefix_len-le-length is_not_space (reverse c.args.bytes.now) in omega (arith, short, c.last_len-length.ensures, length-reverse c.args.bytes.now)
