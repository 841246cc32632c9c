-- What the proof of `stamp::value_of` needs beside the tactics.
use Rattle.std.proofs.Common.{arith}
use Rattle.std.proofs.lemmas.List.{take_all}
use Rattle.annex_base.proofs.StampLemmas.{ten_digits_below, one_digit_more, digits_below}
use Rattle.annex_base.proofs.stamp.value_of.Goals as goal

pub overflow_mul-value : goal.overflow_mul-value
overflow_mul-value c = omega (arith, c.loop-digit.invariant, ten_digits_below c.args.digits.now c.loop-digit.digit-index c.requires.digits c.requires.short)

pub overflow_add-value : goal.overflow_add-value
overflow_add-value c = omega (arith, c.loop-digit.invariant, c.from.ensures, ten_digits_below c.args.digits.now c.loop-digit.digit-index c.requires.digits c.requires.short)

pub loop-digit-preserved : goal.loop-digit-preserved
loop-digit-preserved c = rw (c.from.ensures, c.loop-digit.invariant) (one_digit_more c.args.digits.now c.loop-digit.digit-index c.requires.digits (omega arith))

pub returns-clause-below : goal.returns-clause-below
returns-clause-below c =
    rw (c.loop-digit.invariant, take_all c.loop-digit.digit-index c.args.digits.now c.loop-digit-test.false) (digits_below c.args.digits.now c.requires.digits)
