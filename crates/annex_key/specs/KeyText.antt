-- What a key is, and its one text (git-annex internals: keys).
use Rattle.std.specs.Prelude.{◌≡◌, ℕ, ◌<◌, ◌≤◌, ◌^◌, ◌==◌, Bool, false, nat_le, ◌&&◌, ◌||◌, IsTrue, List, [], ◌∷◌, ◌++◌, length, Option, Some, None, IfSome, codes}
use Rattle.std.specs.List.{list_all, list_any}
use Rattle.std.specs.Str.{IsUtf8, bytes_eq}
use Rattle.std.specs.Fmt.{decimal}
use Rattle.annex_base.specs.Lines.{IsOneLine, dash}

-- a key's parts; a chunk's are its size and its number
pub record KeyParts : Type 0 where
  pub backend : List ℕ
  pub size : Option ℕ
  pub mtime : Option ℕ
  pub chunk : Option (ℕ × ℕ)
  pub name : List ℕ

-- the bytes `-` and `_`
abbrev pub underscore : ℕ
underscore = 95

-- the letters of the fields: `s`, `m`, `S` and `C`
abbrev pub size_letter : ℕ
size_letter = 115

abbrev pub mtime_letter : ℕ
mtime_letter = 109

abbrev pub chunk_size_letter : ℕ
chunk_size_letter = 83

abbrev pub chunk_letter : ℕ
chunk_letter = 67

-- an upper-case ASCII letter
abbrev pub is_upper : ℕ → Bool
is_upper b = nat_le 65 b && nat_le b 90

-- an upper-case letter, a digit or `_`
abbrev pub is_backend_byte : ℕ → Bool
is_backend_byte b = is_upper b || (nat_le 48 b && nat_le b 57) || (b == underscore)

-- an upper-case letter and then backend bytes, 32 bytes at most (the limit is own)
abbrev pub is_backend : List ℕ → Bool
is_backend [] = false
is_backend (b ∷ bs) = is_upper b && list_all is_backend_byte bs && nat_le (length bs) 31

-- a field: a dash, its letter and its number, which has no leading zeros (own)
abbrev pub field_text : ℕ → Option ℕ → List ℕ
field_text letter None = []
field_text letter (Some n) = dash ∷ letter ∷ decimal n

-- the two fields of a chunk
abbrev pub chunk_text : Option (ℕ × ℕ) → List ℕ
chunk_text None = []
chunk_text (Some c) = field_text chunk_size_letter (Some c.0) ++ field_text chunk_letter (Some c.1)

-- BACKEND[-sSIZE][-mMTIME][-SCHUNKSIZE-CCHUNK]--NAME (the order of the fields is own)
abbrev pub key_text : KeyParts → List ℕ
key_text k = k.backend ++ (field_text size_letter k.size ++ (field_text mtime_letter k.mtime ++ (chunk_text k.chunk ++ (dash ∷ dash ∷ k.name))))

-- UTF-8 without a newline
pub record IsName (name : List ℕ) : Type 0 where
  pub utf8 : IsUtf8 name
  pub one_line : IsOneLine name

-- the parts of a key (the limits of its numbers and of its text are own)
pub record IsKey (k : KeyParts) : Type 0 where
  pub backend : IsTrue (is_backend k.backend)
  pub size : IfSome k.size (λ n. n < 2 ^ 64)
  pub mtime : IfSome k.mtime (λ n. n < 2 ^ 64)
  pub chunk : IfSome k.chunk (λ c. (c.0 < 2 ^ 64) × (c.1 < 2 ^ 64))
  pub some_name : 0 < length k.name
  pub name : IsName k.name
  pub short : length (key_text k) ≤ 1024

-- a key without its chunk size and chunk
abbrev pub without_chunk : KeyParts → KeyParts
without_chunk k = record k { chunk = None }

-- the text of a key: the parts that it spells
pub record IsKeyText (text : List ℕ) : Type 0 where
  pub parts : KeyParts
  pub key : IsKey parts
  pub spelled : text ≡ key_text parts

-- the backends whose names are digests (RFC 1321; FIPS 180-4): with an `E`, an extension follows the digest
abbrev pub digest_backends : List (List ℕ)
digest_backends = codes "MD5" ∷ codes "SHA224" ∷ codes "SHA256" ∷ codes "SHA384" ∷ codes "SHA512" ∷ codes "MD5E" ∷ codes "SHA224E" ∷ codes "SHA256E" ∷ codes "SHA384E" ∷ codes "SHA512E" ∷ []

-- whether a backend is one of them
abbrev pub is_digest_backend : List ℕ → Bool
is_digest_backend backend = list_any (bytes_eq backend) digest_backends
