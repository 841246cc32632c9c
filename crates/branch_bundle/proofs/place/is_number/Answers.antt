-- What the proof of `place::is_number` needs beside the tactics.
use Rattle.std.proofs.Common.{refl}
use Rattle.std.proofs.Common.{◌≡◌, ℕ, false}
use Rattle.annex_base.proofs.Conditions.{denied}
use Rattle.branch_bundle.specs.Bundle.{number_text}
use Rattle.branch_bundle.proofs.TestLemmas.{no_number_text, zero_text, digits_text}
use Rattle.branch_bundle.proofs.place.is_number.Goals as goal

pub returns-in_default : goal.returns-in_default
returns-in_default c = denied false ((n : ℕ) × (c.args.word.now ≡ number_text n)) refl (no_number_text c.args.word.now c.in_default.ensures.cases)

pub returns-then-first-eq48 : goal.returns-then-first-eq48
returns-then-first-eq48 c = zero_text c.args.word.now c.in-Some.rest.now c.in-Some.first.now c.is_empty.result c.in-Some.ensures.cases.0 c.if-first-eq48.true c.is_empty.ensures

pub returns : goal.returns
returns c = digits_text c.args.word.now c.in-Some.rest.now c.in-Some.first.now c.all_digits.result c.in-Some.ensures.cases.0 c.if-first-eq48.false c.all_digits.ensures
