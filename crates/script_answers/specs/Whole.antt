-- What was read of a source, and what a sink took (own).
use Rattle.std.specs.Prelude.{◌≡◌, ℕ, ◌+◌, ◌≤◌, List, [], length, take}
use Rattle.std.specs.declared.option.Option.{Option}
use Rattle.std.specs.Io.KnownBytes.{append_known, prepend_known}
use Rattle.std.specs.Option.{ForSome}

-- the greatest number of bytes of a script
abbrev pub script_limit : ℕ
script_limit = 1048576

-- no bytes are left, where the source tells them
abbrev pub IsAtEnd : Option (List ℕ) → Type 0
IsAtEnd left = ForSome left (λ bytes. bytes ≡ [])

-- These bytes were read, up to the end, or past the limit by at most one piece of 4,096 bytes.
pub record IsRead (limit : ℕ) (old new : Option (List ℕ)) (bytes : List ℕ) : Type 0 where
  pub front : old ≡ prepend_known bytes new
  pub whole : length bytes ≤ limit → IsAtEnd new
  pub few : length bytes ≤ limit + 4096

-- the sink took a front of the text
abbrev pub TakesFront : Option (List ℕ) → Option (List ℕ) → List ℕ → Type 0
TakesFront old new text = (n : ℕ) × (new ≡ append_known old (take n text))
