-- What is left of a text; for private contracts.
use Rattle.std.specs.Prelude.{ℕ, Bool, false, List, Option, Some, None, bytes_eq}

-- this is what is left, if anything is
abbrev pub is_rest : List ℕ → Option (List ℕ) → Bool
is_rest rest None = false
is_rest rest (Some left) = bytes_eq rest left
