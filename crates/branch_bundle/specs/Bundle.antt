-- A branch as one text, as it travels from repository to repository (own).
use Rattle.std.specs.Prelude.{◌≡◌, ℕ, zero, suc, ◌+◌, ◌/◌, ◌%◌, ◌<◌, ◌≤◌, nat_lt, if◌then◌else◌, List, [], ◌∷◌, ◌++◌, length, take, flat_map, codes}
use Rattle.annex_base.specs.Lists.{Each}
use Rattle.annex_base.specs.Lines.{newline}
use Rattle.union_merge.specs.LineSet.{text_of}
use Rattle.union_merge.specs.Branch.{Files, IsBranch}

-- the decimal digits of a number, where it has at most this many
unfoldable pub digits_in : ℕ → ℕ → List ℕ
digits_in zero n = []
digits_in (suc most) n = if nat_lt n 10 then (48 + n) ∷ [] else digits_in most (n / 10) ++ (48 + n % 10) ∷ []

-- a number in decimal, however great: it has at most n + 1 digits
abbrev pub number_text : ℕ → List ℕ
number_text n = digits_in (n + 1) n

-- `file N PATH` and a newline, and then the file's lines, which are N bytes
abbrev pub file_text : List ℕ × List (List ℕ) → List ℕ
file_text f = codes "file " ++ number_text (length (text_of f.1)) ++ codes " " ++ f.0 ++ newline ∷ text_of f.1

-- `annex-bundle 1` and a newline, and then each file
abbrev pub bundle_text : Files → List ℕ
bundle_text files = codes "annex-bundle 1" ++ newline ∷ flat_map file_text files

-- the text is the bundle of this branch
pub record IsBundle (text : List ℕ) (files : Files) : Type 0 where
  pub branch : IsBranch files
  pub spelled : text ≡ bundle_text files

abbrev pub IsByte : ℕ → Type 0
IsByte b = b < 256

-- some bundle begins with the text, and goes on with bytes
pub record BeginsBundle (text : List ℕ) : Type 0 where
  pub files : Files
  pub rest : List ℕ
  pub bytes : Each IsByte rest
  pub bundle : IsBundle (text ++ rest) files

-- The text is no bundle. Some bundle begins with what stands before this place; none begins with that and the byte at the
-- place, if there is one.
pub record IsFirstWrong (text : List ℕ) (place : ℕ) : Type 0 where
  pub inside : place ≤ length text
  pub none : (files : Files) → ¬ IsBundle text files
  pub before : BeginsBundle (take place text)
  pub wrong : place < length text → ¬ BeginsBundle (take (place + 1) text)
