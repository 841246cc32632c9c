-- The number that digits write is no smaller than what the first of them write.
use Rattle.std.proofs.Common.{◌≡◌, ℕ, ◌+◌, ◌*◌, ◌^◌, ◌≤◌, List, [], ◌∷◌, arith}
use Rattle.std.specs.Prelude.{if◌then◌else◌, nat_lt}
use Rattle.std.proofs.lemmas.Bool.Decides.{nat_tests}
use Rattle.std.specs.Char.{digit_value}
use Rattle.std.specs.Str.Parse.{digits_value_after}
use Rattle.step_judging.specs.Telling.{small_part}

value_rises : (n : ℕ) (digits : List ℕ) → n ≤ digits_value_after 10 n digits
value_rises n [] = omega arith
value_rises n (c ∷ digits) = omega (arith, value_rises (n * 10 + digit_value c) digits)

pub great_part : (n : ℕ) (digits : List ℕ) → 2 ^ 62 ≤ n → small_part (digits_value_after 10 n digits) ≡ 1
great_part n digits great = go (digits_value_after 10 n digits) (omega (arith, value_rises n digits))
  where
    go : (m : ℕ) → 2 ^ 62 ≤ m → (if nat_lt m (2 ^ 62) then m else 1) ≡ 1
    go m le = grind (arith, nat_tests)
