-- What the proof of `stamp::put_digits` needs beside the tactics.
use Rattle.std.proofs.Common.{◌≡◌, ◌-◌, ◌++◌, List, ℕ, sym, ap, ◌∙◌, append-nil, append_assoc, arith}
use Rattle.std.proofs.Math.Nat.{mod-lt}
use Rattle.annex_base.specs.StampText.{digits_after_point}
use Rattle.annex_base.proofs.StampLemmas.{unit_some, first_digit, digits-first, digits-zero}
use Rattle.annex_base.proofs.stamp.put_digits.Goals as goal

pub nonzero_div-rest : goal.nonzero_div-rest
nonzero_div-rest c = rw c.pow-unit.ensures (unit_some (c.loop-rest.places - 1))

pub overflow_cast-rest : goal.overflow_cast-rest
overflow_cast-rest c =
    rw c.pow-unit.ensures (omega (arith, first_digit c.loop-rest.places c.loop-rest.rest c.loop-rest-test.true c.loop-rest.invariant.below))

pub overflow_add-rest : goal.overflow_add-rest
overflow_add-rest c =
    rw c.pow-unit.ensures (omega (arith, first_digit c.loop-rest.places c.loop-rest.rest c.loop-rest-test.true c.loop-rest.invariant.below))

pub nonzero_rem-rest : goal.nonzero_rem-rest
nonzero_rem-rest c = rw c.pow-unit.ensures (unit_some (c.loop-rest.places - 1))

pub loop-rest-preserved : goal.loop-rest-preserved
loop-rest-preserved c = record {
  within = omega arith;
  below = rw c.pow-unit.ensures (mod-lt c.loop-rest.rest (unit_some (c.loop-rest.places - 1)));
  written =
      let first = digits-first c.loop-rest.places c.loop-rest.rest c.loop-rest-test.true c.loop-rest.invariant.below in
      rw (c.in_ok-push.ensures.items, c.pow-unit.ensures, append_assoc) (ap (λ (l : List ℕ). c.loop-rest.out.items ++ l) (sym first) ∙ c.loop-rest.invariant.written);
}

pub returns : goal.returns
returns c =
    let none : c.loop-rest.rest ≡ 0 = omega arith in
    sym (append-nil c.loop-rest.out.items) ∙ ap (λ (l : List ℕ). c.loop-rest.out.items ++ l) (sym (digits-zero c.loop-rest.places) ∙ ap (digits_after_point c.loop-rest.places) (sym none)) ∙ c.loop-rest.invariant.written
