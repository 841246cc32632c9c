-- What a store of contents, parts, hold records and files tells, and how its calls change it (own).
use Rattle.std.specs.Prelude.{◌≢◌, ℕ, ◌<◌, ◌-◌, ◌^◌, ◌==◌, not, nat_lt, if◌then◌else◌, List, [], ◌∷◌, ◌++◌, length, take, drop, min, filter, Option, Some, None, All, AllPairs, bytes_eq}
use Rattle.std.specs.Option.{ForSome, unwrap_or}
use Rattle.object_store.specs.declared.keeper.HoldRecord.{HoldRecord}

-- the bytes of each key's content, if it is there
abbrev pub Contents : Type 0
Contents = List ℕ → Option (List ℕ)

-- the bytes of each key's part, of which those that aren't there are empty
abbrev pub Parts : Type 0
Parts = List ℕ → List ℕ

-- the bytes of each path's file, if it is there
abbrev pub Files : Type 0
Files = List ℕ → Option (List ℕ)

-- f with x at one place
abbrev pub with_at : {A : Type 0} → (List ℕ → A) → List ℕ → A → List ℕ → A
with_at f place x other = if bytes_eq place other then x else f other

-- the bytes of a content, of which one that isn't there has none
abbrev pub bytes_of : Contents → List ℕ → List ℕ
bytes_of contents key = unwrap_or (contents key) []

-- the contents after the part of a key became its content, where both are told
abbrev pub contents_after_commit : Option Contents → Option Parts → List ℕ → Option Contents
contents_after_commit (Some contents) (Some parts) key = Some (with_at contents key (Some (parts key)))
contents_after_commit contents parts key = None

-- how many bytes a read at a place puts into this much room
abbrev pub read_length : List ℕ → ℕ → ℕ → ℕ
read_length bytes at room = min (length bytes - at) room

-- the room after a read at a place: the bytes from there as far as they go, and what stood behind them
abbrev pub room_after_read : List ℕ → ℕ → List ℕ → List ℕ
room_after_read bytes at room = let n = read_length bytes at (length room) in take n (drop at bytes) ++ drop n room

-- each content has fewer than 2 ^ 62 bytes, and so has each part
abbrev pub AreSmall : Contents → Type 0
AreSmall contents = (key : List ℕ) → ForSome (contents key) (λ bytes. length bytes < 2 ^ 62)

abbrev pub AreShort : Parts → Type 0
AreShort parts = (key : List ℕ) → length (parts key) < 2 ^ 62

abbrev pub AreSmallContents : Option Contents → Type 0
AreSmallContents known = ForSome known AreSmall

abbrev pub AreSmallParts : Option Parts → Type 0
AreSmallParts known = ForSome known AreShort

-- the records with one more, which takes the place of an earlier one of its number; they stand in falling order of number
abbrev pub with_record : List HoldRecord → HoldRecord → List HoldRecord
with_record [] r = r ∷ []
with_record (x ∷ xs) r = if nat_lt x.number r.number then r ∷ x ∷ xs else (if x.number == r.number then r ∷ xs else x ∷ with_record xs r)

-- the records of other numbers
abbrev pub without_record : List HoldRecord → ℕ → List HoldRecord
without_record rs number = filter (λ r. not (r.number == number)) rs

-- no two records have the same number
abbrev pub AreDistinct : List HoldRecord → Type 0
AreDistinct rs = AllPairs (λ r s. r.number ≢ s.number) rs

-- the records stand in falling order of number
abbrev pub AreFalling : List HoldRecord → Type 0
AreFalling rs = AllPairs (λ r s. s.number < r.number) rs

-- the records' ends are below 2 ^ 62
abbrev pub AreEarly : List HoldRecord → Type 0
AreEarly rs = All (λ r. r.end < 2 ^ 62) rs
