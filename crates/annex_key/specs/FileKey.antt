-- The key whose file has a name, as it is computed (own).
use Rattle.std.specs.Prelude.{ℕ, ◌==◌, Bool, true, false, ◌&&◌, if◌then◌else◌, List, [], ◌∷◌, Option, Some, None, Result, Ok, Err}
use Rattle.std.specs.Option.{unwrap_or}
use Rattle.std.specs.Str.{bytes_eq}
use Rattle.annex_base.specs.Lines.{slash}
use Rattle.annex_key.specs.declared.fault.KeyFault.{KeyFault}
use Rattle.annex_key.specs.KeyText.{KeyParts}
use Rattle.annex_key.specs.KeyFile.{ampersand, percent, letter_byte, file_text}
use Rattle.annex_key.specs.Reading.{key_at}

-- the bytes that a file name stands for, after a `&` or not
abbrev pub bytes_after : Bool → List ℕ → List ℕ
bytes_after escaped [] = []
bytes_after true (c ∷ cs) = unwrap_or (letter_byte c) c ∷ bytes_after false cs
bytes_after false (b ∷ bs) = if b == ampersand then bytes_after true bs else (if b == percent then slash else b) ∷ bytes_after false bs

-- the text that a file name stands for, where it stands for one
abbrev pub text_in : List ℕ → List ℕ
text_in file = bytes_after false file

abbrev pub was_read : Result KeyParts KeyFault → Bool
was_read (Ok parts) = true
was_read (Err e) = false

-- whether the text is a key's
abbrev pub is_key : List ℕ → Bool
is_key text = was_read (key_at text)

-- the text, if it is a key's whose file has this name
abbrev pub key_by : List ℕ → List ℕ → Option (List ℕ)
key_by file text = if bytes_eq (file_text text) file && is_key text then Some text else None

-- the key whose file has this name
abbrev pub key_of_file : List ℕ → Option (List ℕ)
key_of_file file = key_by file (text_in file)
