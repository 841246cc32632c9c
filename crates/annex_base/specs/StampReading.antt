-- Reading a stamp from left to right.
use Rattle.std.specs.Prelude.{ℕ, ◌+◌, ◌*◌, ◌^◌, Bool, true, false, nat_lt, nat_le, ◌==◌, ◌&&◌, if◌then◌else◌, List, [], ◌∷◌, take, drop, Option, Some, None, option_and_then}
use Rattle.std.specs.Char.{is_ascii_digit}
use Rattle.std.specs.List.{prefix_len}
use Rattle.std.specs.Str.Parse.{digits_value}
use Rattle.annex_base.specs.StampText.{nanos_of}

-- the digits in front, where there is one and at most so many, and the bytes after them
unfoldable pub digits_at : ℕ → List ℕ → Option (List ℕ × List ℕ)
digits_at most bytes =
    let n = prefix_len is_ascii_digit bytes in
    if nat_lt 0 n && nat_le n most then Some (take n bytes, drop n bytes) else None

-- a fraction's digits, none without a point, and the bytes after them
unfoldable pub fraction_at : List ℕ → Option (List ℕ × List ℕ)
fraction_at [] = Some ([], [])
fraction_at (b ∷ bytes) = if b == 46 then digits_at 12 bytes else Some ([], b ∷ bytes)

-- whether a stamp may end with these bytes
abbrev pub is_ending : List ℕ → Bool
is_ending [] = true
is_ending (b ∷ []) = b == 115
is_ending (b ∷ c ∷ bytes) = false

-- the stamp of the whole text
unfoldable pub stamp_of : List ℕ → Option ℕ
stamp_of text =
    option_and_then (λ s. option_and_then (λ f.
    if is_ending f.1 then Some (digits_value 10 s.0 * 10 ^ 9 + nanos_of f.0) else None)
    (fraction_at s.1)) (digits_at 10 text)
