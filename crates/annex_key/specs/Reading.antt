-- Reading a key from left to right, with the first fault that is met.
use Rattle.std.specs.Prelude.{◌≡◌, ℕ, ◌+◌, ◌-◌, min, Bool, false, List, [], ◌∷◌, length, take, drop, Option, Some, None, Result, Ok, Err, nat_lt, ◌==◌, ◌&&◌, ◌||◌, if◌then◌else◌}
use Rattle.std.specs.List.{before_first, position_or_len}
use Rattle.std.specs.Option.{option_map}
use Rattle.std.specs.Str.Lossy.{utf8_valid_len}
use Rattle.annex_base.specs.Decimal.{number_of}
use Rattle.annex_base.specs.Lines.{is_newline, dash}
use Rattle.annex_base.specs.ResultSteps.{◌>>=◌}
use Rattle.annex_key.specs.declared.fault.KeyFault.{KeyFault}
use Rattle.annex_key.specs.declared.fault.KeyFault.TheVariants.{NoDashes, BadBackend, BadField, EmptyName, TooLong, BadName}
use Rattle.annex_key.specs.KeyText.{KeyParts, is_backend, size_letter, mtime_letter, chunk_size_letter, chunk_letter}

-- A reader of a part takes the length of the whole text and the bytes from its place on, and gives the part and the
-- bytes after it, so the place of what is left is the length of the text less the length of what is left.

-- what a call returned, seen by view, is what reading gives
abbrev pub Reads : {X Y : Type 0} → (X → Y) → Result X KeyFault → Result Y KeyFault → Type 0
Reads view (Ok x) read = read ≡ Ok (view x)
Reads view (Err e) read = read ≡ Err e

-- whether the bytes begin with this one
abbrev pub begins : ℕ → List ℕ → Bool
begins b [] = false
begins b (x ∷ xs) = x == b

-- whether two dashes stand side by side
abbrev pub has_dashes : List ℕ → Bool
has_dashes [] = false
has_dashes (b ∷ bs) = ((b == dash) && begins dash bs) || has_dashes bs

abbrev pub is_dash : ℕ → Bool
is_dash b = b == dash

-- what stands before the first dash, and from it on
abbrev pub word_of : List ℕ → List ℕ
word_of bytes = before_first is_dash bytes

abbrev pub after_word : List ℕ → List ℕ
after_word bytes = drop (position_or_len is_dash bytes) bytes

-- a backend is what stands before the first dash
unfoldable pub backend_at : List ℕ → Result (List ℕ × List ℕ) KeyFault
backend_at bytes = if is_backend (word_of bytes) then Ok (word_of bytes, after_word bytes) else Err BadBackend

abbrev pub or_fault : {A : Type 0} → Option A → KeyFault → Result A KeyFault
or_fault None e = Err e
or_fault (Some x) e = Ok x

-- a field's number is what stands before the next dash; a bad one is a fault at its first byte
unfoldable pub number_at : ℕ → List ℕ → Result (ℕ × List ℕ) KeyFault
number_at total bytes = or_fault (option_map (λ n. (n, after_word bytes)) (number_of (word_of bytes))) (BadField (total - length bytes))

-- whether a dash and this letter come next
abbrev pub comes : ℕ → List ℕ → Bool
comes letter bytes = begins dash bytes && begins letter (drop 1 bytes)

-- a field that may stand here
unfoldable pub field_at : ℕ → ℕ → List ℕ → Result (Option ℕ × List ℕ) KeyFault
field_at letter total bytes = if comes letter bytes
    then (number_at total (drop 2 bytes) >>= λ n. Ok (Some n.0, n.1))
    else Ok (None, bytes)

-- a field that must stand here; another letter is a fault at its place
unfoldable pub must_at : ℕ → ℕ → List ℕ → Result (ℕ × List ℕ) KeyFault
must_at letter total bytes = if comes letter bytes
    then number_at total (drop 2 bytes)
    else Err (BadField (total - length bytes + 1))

-- a chunk size and a chunk, or neither
unfoldable pub chunk_at : ℕ → List ℕ → Result (Option (ℕ × ℕ) × List ℕ) KeyFault
chunk_at total bytes = if comes chunk_size_letter bytes
    then (number_at total (drop 2 bytes) >>= λ size. must_at chunk_letter total size.1 >>= λ chunk. Ok (Some (size.0, chunk.0), chunk.1))
    else Ok (None, bytes)

-- the length of the longest front of a name that is UTF-8 without a newline
abbrev pub name_front : List ℕ → ℕ
name_front name = min (position_or_len is_newline name) (utf8_valid_len name)

-- a name, all of the bytes
unfoldable pub checked_name : ℕ → List ℕ → Result (List ℕ) KeyFault
checked_name total name = if length name == 0 then Err EmptyName
    else (if nat_lt (name_front name) (length name) then Err (BadName (total - length name + name_front name)) else Ok name)

-- the two dashes and the name; another letter than the second dash is a fault at its place
unfoldable pub name_at : ℕ → List ℕ → Result (List ℕ) KeyFault
name_at total bytes = if comes dash bytes then checked_name total (drop 2 bytes) else Err (BadField (total - length bytes + 1))

-- the parts from left to right
unfoldable pub parts_at : List ℕ → Result KeyParts KeyFault
parts_at text = do
  backend ← backend_at text
  size ← field_at size_letter (length text) backend.1
  mtime ← field_at mtime_letter (length text) size.1
  chunk ← chunk_at (length text) mtime.1
  name ← name_at (length text) chunk.1
  Ok (record { backend = backend.0; size = size.0; mtime = mtime.0; chunk = chunk.0; name = name })

-- all of the text: its length and its dashes first
unfoldable pub key_at : List ℕ → Result KeyParts KeyFault
key_at text = if nat_lt 1024 (length text) then Err TooLong else (if has_dashes text then parts_at text else Err NoDashes)

-- what stands before the chunk's fields, and after them
unfoldable pub around_chunk : List ℕ → Result (List ℕ × List ℕ) KeyFault
around_chunk text = do
  backend ← backend_at text
  size ← field_at size_letter (length text) backend.1
  mtime ← field_at mtime_letter (length text) size.1
  chunk ← chunk_at (length text) mtime.1
  Ok (take (length text - length mtime.1) text, chunk.1)
