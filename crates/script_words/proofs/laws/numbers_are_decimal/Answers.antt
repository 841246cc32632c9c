-- What the proof of `laws::numbers_are_decimal` needs beside the tactics.
use Rattle.std.proofs.Common.{arith}
use Rattle.script_words.proofs.NumberLemmas.{number_read, number_written}
use Rattle.script_words.proofs.laws.numbers_are_decimal.Goals as goal

pub returns : goal.returns
returns c greatest n word small =
    (λ e. let is = number_written greatest n word e in (is.0, is.1), λ is. rw is.0 (number_read greatest n is.1 (omega (arith, is.1, small))))
