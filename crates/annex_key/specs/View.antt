-- What a key's text says.
use Rattle.std.specs.Prelude.{◌≡◌, ℕ, List, [], Option, Some, None, Result, Ok, Err}
use Rattle.annex_key.specs.declared.fault.KeyFault.{KeyFault}
use Rattle.annex_key.specs.declared.fault.KeyFault.TheVariants.{NoMemory}
use Rattle.annex_key.specs.KeyText.{KeyParts, key_text, without_chunk}
use Rattle.annex_base.specs.ResultSteps.{◌>>=◌}
use Rattle.annex_key.specs.Reading.{key_at, word_of}

-- the size of what was read, or the fault
abbrev pub size_in : Result KeyParts KeyFault → Result (Option ℕ) KeyFault
size_in read = read >>= λ k. Ok k.size

-- the size of the key that the text spells, or the first fault
abbrev pub size_or_fault : List ℕ → Result (Option ℕ) KeyFault
size_or_fault text = size_in (key_at text)

-- the field belongs to the text
abbrev pub IsKeyed : List ℕ → Option ℕ → Type 0
IsKeyed text size = size_or_fault text ≡ Ok size

abbrev pub fault_in : {A : Type 0} → Result A KeyFault → Option KeyFault
fault_in (Ok x) = None
fault_in (Err e) = Some e

-- the first fault of a text, if it has one
abbrev pub first_fault : List ℕ → Option KeyFault
first_fault text = fault_in (key_at text)

abbrev pub of_text : KeyFault → Option KeyFault
of_text NoMemory = None
of_text e = Some e

-- the fault that an answer tells of the text: want of memory is none
abbrev pub told_fault : {A : Type 0} → Result A KeyFault → Option KeyFault
told_fault (Ok x) = None
told_fault (Err e) = of_text e

-- a key's backend
abbrev pub backend_part : List ℕ → List ℕ
backend_part text = word_of text

abbrev pub or_none : Result (Option ℕ) KeyFault → Option ℕ
or_none (Ok size) = size
or_none (Err e) = None

-- a key's size, if its text has one
abbrev pub size_part : List ℕ → Option ℕ
size_part text = or_none (size_or_fault text)

abbrev pub name_in : Result KeyParts KeyFault → List ℕ
name_in (Ok k) = k.name
name_in (Err e) = []

-- a key's name
abbrev pub name_part : List ℕ → List ℕ
name_part text = name_in (key_at text)

abbrev pub chunkless : List ℕ → Result KeyParts KeyFault → List ℕ
chunkless text (Ok k) = key_text (without_chunk k)
chunkless text (Err e) = text

-- the text of a key without its chunk size and chunk
abbrev pub unchunked_text : List ℕ → List ℕ
unchunked_text text = chunkless text (key_at text)
