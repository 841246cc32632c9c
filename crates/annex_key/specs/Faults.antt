-- Which rule a text breaks first, from left to right, and at which byte (own).
use Rattle.std.specs.Prelude.{◌≡◌, ◌≢◌, ℕ, ◌+◌, ◌<◌, ◌≤◌, ◌^◌, ◌==◌, ◌⊎◌, Bool, ◌&&◌, ◌||◌, is_none, IsTrue, IsFalse, IsSome, List, [], ◌∷◌, ◌++◌, length, take, Option, Some, None, IfSome}
use Rattle.std.specs.Fmt.{decimal}
use Rattle.annex_base.specs.Lines.{dash}
use Rattle.annex_key.specs.declared.fault.KeyFault.{KeyFault}
use Rattle.annex_key.specs.declared.fault.KeyFault.TheVariants.{NoDashes, BadBackend, BadField, EmptyName, TooLong, BadEscape, BadName, NoMemory}
use Rattle.annex_key.specs.KeyText.{is_backend, size_letter, mtime_letter, chunk_size_letter, chunk_letter, field_text, IsName}
use Rattle.annex_key.specs.Reading.{word_of}

-- two dashes stand side by side
pub record HasDashes (text : List ℕ) : Type 0 where
  pub front : List ℕ
  pub rest : List ℕ
  pub is : text ≡ front ++ (dash ∷ dash ∷ rest)

-- the word is the decimal text of a number below 2 ^ 64
abbrev pub IsNumber : List ℕ → Type 0
IsNumber word = (n : ℕ) × (n < 2 ^ 64) × (word ≡ decimal n)

-- what stands before the dash of a field or of the name: a backend and some fields
pub record Front : Type 0 where
  pub backend : List ℕ
  pub size : Option ℕ
  pub mtime : Option ℕ
  pub chunk_size : Option ℕ
  pub chunk : Option ℕ

abbrev pub front_text : Front → List ℕ
front_text f = f.backend ++ (field_text size_letter f.size ++ (field_text mtime_letter f.mtime ++ (field_text chunk_size_letter f.chunk_size ++ field_text chunk_letter f.chunk)))

-- its parts are good, and a chunk stands after its size alone
pub record IsFront (f : Front) : Type 0 where
  pub backend : IsTrue (is_backend f.backend)
  pub size : IfSome f.size (λ n. n < 2 ^ 64)
  pub mtime : IfSome f.mtime (λ n. n < 2 ^ 64)
  pub chunk_size : IfSome f.chunk_size (λ n. n < 2 ^ 64)
  pub chunk : IfSome f.chunk (λ n. (n < 2 ^ 64) × IsSome f.chunk_size)

-- whether this letter may stand after the next dash, where the name's is a dash: a chunk must follow its size, and else
-- the name or any later field may follow
abbrev pub may_come : Option ℕ → Option ℕ → Option ℕ → Option ℕ → ℕ → Bool
may_come size mtime (Some n) None letter = letter == chunk_letter
may_come size mtime (Some n) (Some c) letter = letter == dash
may_come size mtime None chunk letter = (letter == dash) || (letter == chunk_size_letter) || ((letter == mtime_letter) && is_none mtime) || ((letter == size_letter) && is_none mtime && is_none size)

abbrev pub may_follow : Front → ℕ → Bool
may_follow f letter = may_come f.size f.mtime f.chunk_size f.chunk letter

-- a letter stands there that may not
pub record HasBadLetter (text : List ℕ) (at : ℕ) : Type 0 where
  pub front : Front
  pub is : IsFront front
  pub letter : ℕ
  pub rest : List ℕ
  pub spelled : text ≡ front_text front ++ (dash ∷ letter ∷ rest)
  pub bad : IsFalse (may_follow front letter)
  pub place : at ≡ length (front_text front) + 1

-- a field's number is none: it is what stands before the next dash
pub record HasBadNumber (text : List ℕ) (at : ℕ) : Type 0 where
  pub front : Front
  pub is : IsFront front
  pub letter : ℕ
  pub rest : List ℕ
  pub spelled : text ≡ front_text front ++ (dash ∷ letter ∷ rest)
  pub field : letter ≢ dash
  pub good : IsTrue (may_follow front letter)
  pub bad : ¬ IsNumber (word_of rest)
  pub place : at ≡ length (front_text front) + 2

-- what stands before the name is good, and this is the place of the name
pub record HasName (text name : List ℕ) (place : ℕ) : Type 0 where
  pub front : Front
  pub is : IsFront front
  pub good : IsTrue (may_follow front dash)
  pub spelled : text ≡ front_text front ++ (dash ∷ dash ∷ name)
  pub at : place ≡ length (front_text front) + 2

-- the first n bytes are the longest front of a name that is UTF-8 without a newline, and more follow
pub record IsNameUpTo (name : List ℕ) (n : ℕ) : Type 0 where
  pub short : n < length name
  pub front : IsName (take n name)
  pub longest : (m : ℕ) → n < m → ¬ IsName (take m name)

-- the name has a byte that is a newline, or where what isn't UTF-8 begins
pub record HasBadName (text : List ℕ) (at : ℕ) : Type 0 where
  pub name : List ℕ
  pub from : ℕ
  pub has : HasName text name from
  pub good : ℕ
  pub longest : IsNameUpTo name good
  pub place : at ≡ from + good

-- a text that isn't too long and has two dashes
abbrev pub IsTried : List ℕ → Type 0
IsTried text = (length text ≤ 1024) × HasDashes text

-- this is the first rule that the text breaks
abbrev pub Breaks : KeyFault → List ℕ → Type 0
Breaks TooLong text = 1024 < length text
Breaks NoDashes text = (length text ≤ 1024) × (¬ HasDashes text)
Breaks BadBackend text = IsTried text × (¬ IsTrue (is_backend (word_of text)))
Breaks (BadField at) text = IsTried text × (HasBadLetter text at ⊎ HasBadNumber text at)
Breaks EmptyName text = IsTried text × (place : ℕ) × HasName text [] place
Breaks (BadName at) text = IsTried text × HasBadName text at
Breaks (BadEscape at) text = ⊥
Breaks NoMemory text = ⊥
