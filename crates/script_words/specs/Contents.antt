-- The contents that a script describes (own; hexadecimal text is that of RFC 4648).
use Rattle.std.specs.Prelude.{◌≡◌, ℕ, ◌+◌, ◌%◌, ◌<◌, ◌^◌, Bool, ◌==◌, List, ◌∷◌, ◌++◌, map, codes, Option, Some, Ok, length, take, drop}
use Rattle.std.specs.List.{range_with_len, before_first, after_first}
use Rattle.std.specs.Option.{option_or}
use Rattle.std.specs.Result.{result_ok}
use Rattle.std.specs.Fmt.{decimal}
use Rattle.annex_base.specs.Lines.{colon}
use Rattle.hex.specs.Hex.{decode_of}
use Rattle.annex_base.specs.Decimal.{number_of}
use Rattle.annex_base.specs.OptionSteps.{◌>>=◌}
use Rattle.script_words.specs.Marks.{behind_mark}
use Rattle.script_words.specs.Numbers.{number_up_to}

-- the numbers from 0 on, so many of them
abbrev pub range : ℕ → List ℕ
range n = range_with_len 0 n

-- n bytes, of which the byte at place i is (i + s) mod 251
abbrev pub fill_bytes : ℕ → ℕ → List ℕ
fill_bytes n s = map (λ i. (i + s) % 251) (range n)

abbrev pub is_colon : ℕ → Bool
is_colon b = b == colon

-- what `N:S` says: N below 2 ^ 64, and S below 251
unfoldable pub fill_numbers : List ℕ → Option (ℕ × ℕ)
fill_numbers text =
    number_of (before_first is_colon text) >>= λ n. number_up_to 250 (after_first is_colon text) >>= λ s. Some (n, s)

-- `text:` and a text, which may be empty
abbrev pub text_content : List ℕ → Option (List ℕ)
text_content word = behind_mark (codes "text:") word

-- `hex:` and an even number of hexadecimal digits of either case, which may be none
abbrev pub hex_content : List ℕ → Option (List ℕ)
hex_content word = behind_mark (codes "hex:") word >>= λ digits. result_ok (decode_of digits)

-- `fill:N:S`
abbrev pub fill_content : List ℕ → Option (List ℕ)
fill_content word = behind_mark (codes "fill:") word >>= λ text. fill_numbers text >>= λ x. Some (fill_bytes x.0 x.1)

-- the content that a word describes
unfoldable pub content_of : List ℕ → Option (List ℕ)
content_of word = option_or (text_content word) (option_or (hex_content word) (fill_content word))

-- at most so many bytes of a content, from a place on
abbrev pub piece : List ℕ → ℕ → ℕ → List ℕ
piece content at most = take most (drop at content)

-- the room after these bytes were put to its front
abbrev pub with_front : List ℕ → List ℕ → List ℕ
with_front front room = front ++ drop (length front) room

-- ---- how a content is described

-- the word describes the content
pub data Describes : List ℕ → List ℕ → Type 0 where
  Text : (text : List ℕ) → Describes (codes "text:" ++ text) text
  Hex : (digits bytes : List ℕ) → decode_of digits ≡ Ok bytes → Describes (codes "hex:" ++ digits) bytes
  Fill : (n s : ℕ) → n < 2 ^ 64 → s < 251 → Describes (codes "fill:" ++ (decimal n ++ colon ∷ decimal s)) (fill_bytes n s)
