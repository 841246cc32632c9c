-- Numbers of one to nine digits.
use Rattle.std.proofs.Common.{ℕ, ◌<◌, ◌≤◌, ◌^◌, List, length, take, lit<, lit≤, arith}
use Rattle.std.specs.Char.{is_ascii_digit}
use Rattle.std.specs.List.{AllPass}
use Rattle.std.specs.Str.Parse.{digits_value}
use Rattle.std.proofs.Math.Nat.{pow-le-pow_right}
use Rattle.std.proofs.lemmas.Str.Parse.{digits_value-take-le}
use Rattle.annex_base.proofs.StampLemmas.{digits_below}

-- the first of nine digits write a number below 10 ^ 9
pub nine_digits_below : (ds : List ℕ) (i : ℕ) → AllPass is_ascii_digit ds → length ds ≤ 9 → digits_value 10 (take i ds) < 10 ^ 9
nine_digits_below ds i all short =
    omega (arith, digits_value-take-le 10 ds i (lit≤ tt), digits_below ds all, pow-le-pow_right {n = 10} (lit< tt) {i = length ds} {j = 9} short)
