-- The file name of a key: its text with four bytes written otherwise, each byte by itself (own).
use Rattle.std.specs.Prelude.{◌≡◌, ℕ, ◌==◌, Bool, false, ◌&&◌, ◌||◌, not, if◌then◌else◌, IsTrue, List, [], ◌∷◌, ◌++◌, length, flat_map, Option, Some, None}
use Rattle.std.specs.Option.{option_map}
use Rattle.annex_base.specs.Lines.{colon, slash}
use Rattle.annex_key.specs.declared.fault.KeyFault.{KeyFault}
use Rattle.annex_key.specs.declared.fault.KeyFault.TheVariants.{NoDashes, BadBackend, BadField, EmptyName, TooLong, BadEscape, BadName, NoMemory}
use Rattle.annex_key.specs.Faults.{Breaks}
use Rattle.annex_key.specs.Reading.{begins}

-- the bytes `&`, `%`, `:` and `/`
abbrev pub ampersand : ℕ
ampersand = 38

abbrev pub percent : ℕ
percent = 37

-- the letters `a`, `s` and `c`, which stand after a `&` for it, for `%` and for `:`
abbrev pub ampersand_letter : ℕ
ampersand_letter = 97

abbrev pub percent_letter : ℕ
percent_letter = 115

abbrev pub colon_letter : ℕ
colon_letter = 99

-- a byte of a text as its file name has it
abbrev pub escape_of : ℕ → List ℕ
escape_of b = if b == ampersand then ampersand ∷ ampersand_letter ∷ []
    else (if b == percent then ampersand ∷ percent_letter ∷ []
    else (if b == colon then ampersand ∷ colon_letter ∷ []
    else (if b == slash then percent ∷ [] else b ∷ [])))

-- the file name of a text
abbrev pub file_text : List ℕ → List ℕ
file_text text = flat_map escape_of text

-- the byte that a letter after a `&` stands for
abbrev pub letter_byte : ℕ → Option ℕ
letter_byte letter = if letter == ampersand_letter then Some ampersand
    else (if letter == percent_letter then Some percent else (if letter == colon_letter then Some colon else None))

-- the byte that stands after a `&`, and what is left
abbrev pub after_ampersand : List ℕ → Option (ℕ × List ℕ)
after_ampersand [] = None
after_ampersand (c ∷ cs) = option_map (λ b. (b, cs)) (letter_byte c)

-- the byte that a file name stands for in front, and what is left
abbrev pub byte_at : List ℕ → Option (ℕ × List ℕ)
byte_at [] = None
byte_at (b ∷ bs) = if b == ampersand then after_ampersand bs
    else (if b == percent then Some (slash, bs) else (if (b == colon) || (b == slash) then None else Some (b, bs)))

-- whether the bytes begin with a `:` or `/`, or with a `&` that none of its letters follows
abbrev pub is_bad_escape : List ℕ → Bool
is_bad_escape [] = false
is_bad_escape (b ∷ bs) = (b == colon) || (b == slash) || ((b == ampersand) && not (begins ampersand_letter bs || begins percent_letter bs || begins colon_letter bs))

-- the first place of a file name that stands for no byte
pub record HasBadEscape (file : List ℕ) (at : ℕ) : Type 0 where
  pub front : List ℕ
  pub rest : List ℕ
  pub spelled : file ≡ file_text front ++ rest
  pub bad : IsTrue (is_bad_escape rest)
  pub place : at ≡ length (file_text front)

-- the text that a file name stands for breaks this rule first
abbrev pub StandsForBroken : KeyFault → List ℕ → Type 0
StandsForBroken e file = (text : List ℕ) × (file ≡ file_text text) × Breaks e text

-- this is the first rule that a file name breaks: the escapes come before the rules of the text
abbrev pub BreaksFile : KeyFault → List ℕ → Type 0
BreaksFile (BadEscape at) file = HasBadEscape file at
BreaksFile NoDashes file = StandsForBroken NoDashes file
BreaksFile BadBackend file = StandsForBroken BadBackend file
BreaksFile (BadField at) file = StandsForBroken (BadField at) file
BreaksFile EmptyName file = StandsForBroken EmptyName file
BreaksFile TooLong file = StandsForBroken TooLong file
BreaksFile (BadName at) file = StandsForBroken (BadName at) file
BreaksFile NoMemory file = ⊥

-- the answers of reading a file name's bytes: a bad escape, or want of memory
abbrev pub FailsEscape : KeyFault → List ℕ → Type 0
FailsEscape (BadEscape at) file = HasBadEscape file at
FailsEscape NoMemory file = Unit {0}
FailsEscape NoDashes file = ⊥
FailsEscape BadBackend file = ⊥
FailsEscape (BadField at) file = ⊥
FailsEscape EmptyName file = ⊥
FailsEscape TooLong file = ⊥
FailsEscape (BadName at) file = ⊥
