-- The bytes that part lines and words, and texts of one line.
use Rattle.std.specs.Prelude.{ℕ, Bool, not, ◌==◌, List, Contains}
use Rattle.std.specs.List.{list_all}

abbrev pub newline : ℕ
newline = 10

abbrev pub space : ℕ
space = 32

abbrev pub dash : ℕ
dash = 45

abbrev pub slash : ℕ
slash = 47

abbrev pub colon : ℕ
colon = 58

abbrev pub is_newline : ℕ → Bool
is_newline b = b == newline

abbrev pub is_not_newline : ℕ → Bool
is_not_newline b = not (b == newline)

abbrev pub is_space : ℕ → Bool
is_space b = b == space

abbrev pub is_not_space : ℕ → Bool
is_not_space b = not (b == space)

-- no byte is a newline
abbrev pub IsOneLine : List ℕ → Type 0
IsOneLine text = ¬ Contains text newline

-- the same as a test
abbrev pub is_one_line : List ℕ → Bool
is_one_line text = list_all is_not_newline text
