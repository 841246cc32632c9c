-- The texts of stamps (git-annex internals, location log). A stamp is a count of nanoseconds since 1970.
use Rattle.std.specs.Prelude.{◌≡◌, ◌⊎◌, ℕ, zero, suc, ◌+◌, ◌-◌, ◌*◌, ◌/◌, ◌%◌, ◌^◌, ◌<◌, ◌≤◌, ◌==◌, if◌then◌else◌, List, [], ◌∷◌, ◌++◌, length, take, codes}
use Rattle.std.specs.Char.{is_ascii_digit}
use Rattle.std.specs.List.{AllPass}
use Rattle.std.specs.Fmt.{decimal}
use Rattle.std.specs.Str.Parse.{digits_value}

-- a point and the digits of a fraction, or nothing where it has none
abbrev pub fraction_text : List ℕ → List ℕ
fraction_text [] = []
fraction_text (d ∷ ds) = 46 ∷ d ∷ ds

-- the nanoseconds that a fraction's first nine digits write
abbrev pub nanos_of : List ℕ → ℕ
nanos_of digits = let front = take 9 digits in digits_value 10 front * 10 ^ (9 - length front)

-- the text is 1 to 10 digits of seconds, then maybe a point and 1 to 12 digits, then maybe an s
pub record IsStamp (text : List ℕ) (nanos : ℕ) : Type 0 where
  pub seconds : List ℕ
  pub fraction : List ℕ
  pub ending : List ℕ
  pub spelled : text ≡ seconds ++ (fraction_text fraction ++ ending)
  pub some : 0 < length seconds
  pub short : length seconds ≤ 10
  pub digits : AllPass is_ascii_digit seconds
  pub short_fraction : length fraction ≤ 12
  pub fraction_digits : AllPass is_ascii_digit fraction
  pub unit : (ending ≡ []) ⊎ (ending ≡ codes "s")
  pub value : nanos ≡ digits_value 10 seconds * 10 ^ 9 + nanos_of fraction

-- the digits of n below 10 ^ k as a fraction of k places, without trailing zeros
unfoldable pub digits_after_point : ℕ → ℕ → List ℕ
digits_after_point zero n = []
digits_after_point (suc k) n = if n == 0 then [] else (48 + n / 10 ^ k) ∷ digits_after_point k (n % 10 ^ k)

-- the text that a stamp is written as: seconds, a fraction if it isn't 0, and an s
abbrev pub stamp_text : ℕ → List ℕ
stamp_text nanos =
    decimal (nanos / 10 ^ 9) ++ fraction_text (digits_after_point 9 (nanos % 10 ^ 9)) ++ codes "s"
