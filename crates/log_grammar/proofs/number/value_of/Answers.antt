-- What the proof of `number::value_of` needs beside the tactics.
use Rattle.std.proofs.Common.{◌+◌, arith}
use Rattle.annex_base.proofs.StampLemmas.{one_digit_more}
use Rattle.log_grammar.proofs.NumberLemmas.{nine_digits_below}
use Rattle.log_grammar.proofs.number.value_of.Goals as goal

pub overflow_mul-value : goal.overflow_mul-value
overflow_mul-value c =
    omega (arith, c.loop-digit.invariant, one_digit_more c.args.digits.now c.loop-digit.digit-index c.requires.digits (omega arith), nine_digits_below c.args.digits.now (c.loop-digit.digit-index + 1) c.requires.digits c.requires.short)

pub overflow_add-value : goal.overflow_add-value
overflow_add-value c =
    omega (arith, c.loop-digit.invariant, c.from.ensures, one_digit_more c.args.digits.now c.loop-digit.digit-index c.requires.digits (omega arith), nine_digits_below c.args.digits.now (c.loop-digit.digit-index + 1) c.requires.digits c.requires.short)

pub loop-digit-preserved : goal.loop-digit-preserved
loop-digit-preserved c = rw (c.from.ensures, c.loop-digit.invariant) (one_digit_more c.args.digits.now c.loop-digit.digit-index c.requires.digits (omega arith))
