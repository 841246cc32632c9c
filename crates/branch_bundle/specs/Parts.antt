-- The parts of a bundle's text, as its reader takes them: for private contracts.
use Rattle.std.specs.Prelude.{◌≡◌, ℕ, ◌-◌, Bool, ◌==◌, ◌&&◌, if◌then◌else◌, List, [], ◌∷◌, ◌++◌, length, replicate, flat_map, codes}
use Rattle.std.specs.declared.cmp.Ordering.TheVariants.{Less}
use Rattle.std.specs.Ordering.{is_lt}
use Rattle.annex_base.specs.ByteOrder.{text_cmp}
use Rattle.annex_base.specs.Lists.{Member, Each}
use Rattle.annex_base.specs.Lines.{newline, space}
use Rattle.union_merge.specs.LineSet.{IsLine, IsLineSet, is_empty, text_of}
use Rattle.union_merge.specs.Branch.{Files}
use Rattle.branch_bundle.specs.Bundle.{IsByte, number_text, file_text}

-- no byte of the text is this one
abbrev pub IsFree : ℕ → List ℕ → Type 0
IsFree b text = Member b text → ⊥

-- what stands before the first such byte of the text, and what stands after it
pub record IsCut (b : ℕ) (text front back : List ℕ) : Type 0 where
  pub spelled : text ≡ front ++ b ∷ back
  pub free : IsFree b front

-- a count, and after it a path and a text of lines
abbrev pub counted_file : ℕ → List ℕ → List ℕ → List ℕ
counted_file n path lines = number_text n ++ space ∷ (path ++ newline ∷ lines)

-- a file's text, by its path and the text of its lines
abbrev pub file_of : List ℕ → List ℕ → List ℕ
file_of path lines = codes "file " ++ counted_file (length lines) path lines

-- n of the greatest byte
abbrev pub fill : ℕ → List ℕ
fill n = replicate n 255

-- After a line that is complete, and a line that is so far this front, the text goes on with more lines in order, and
-- ends well where it has this many bytes more.
unfoldable pub ends_well : List ℕ → List ℕ → List ℕ → ℕ → Bool
ends_well line front [] left = if left == 0 then is_empty front else is_lt (text_cmp line (front ++ fill (left - 1)))
ends_well line front (b ∷ bs) left = if b == newline then is_lt (text_cmp line front) && ends_well front [] bs left else ends_well line (front ++ b ∷ []) bs left

-- these files may come after one of this path
abbrev pub Follow : List ℕ → Files → Type 0
Follow path [] = Unit {0}
Follow path (f ∷ files) = (text_cmp path f.0 ≡ Less) × IsLine f.0 × IsLineSet f.1 × Follow f.0 files

-- the files that may come after one of this path begin with the text
pub record BeginsFiles (before text : List ℕ) : Type 0 where
  pub files : Files
  pub rest : List ℕ
  pub bytes : Each IsByte rest
  pub follow : Follow before files
  pub spelled : text ++ rest ≡ flat_map file_text files

-- the text of a set of lines, of n bytes, begins with the text
pub record BeginsLines (n : ℕ) (text : List ℕ) : Type 0 where
  pub lines : List (List ℕ)
  pub rest : List ℕ
  pub bytes : Each IsByte rest
  pub set : IsLineSet lines
  pub long : length (text_of lines) ≡ n
  pub spelled : text_of lines ≡ text ++ rest

-- a path that may come after this one, and lines of n bytes, begin with the text
pub record BeginsPath (n : ℕ) (before text : List ℕ) : Type 0 where
  pub path : List ℕ
  pub lines : List (List ℕ)
  pub rest : List ℕ
  pub bytes : Each IsByte rest
  pub below : text_cmp before path ≡ Less
  pub line : IsLine path
  pub set : IsLineSet lines
  pub long : length (text_of lines) ≡ n
  pub spelled : path ++ newline ∷ text_of lines ≡ text ++ rest

-- a number, a path that may come after this one, and as many bytes of lines begin with the text
pub record BeginsNumber (before text : List ℕ) : Type 0 where
  pub path : List ℕ
  pub lines : List (List ℕ)
  pub rest : List ℕ
  pub bytes : Each IsByte rest
  pub below : text_cmp before path ≡ Less
  pub line : IsLine path
  pub set : IsLineSet lines
  pub spelled : counted_file (length (text_of lines)) path (text_of lines) ≡ text ++ rest

-- a file whose path may come after this one begins with the text
pub record BeginsFile (before text : List ℕ) : Type 0 where
  pub path : List ℕ
  pub lines : List (List ℕ)
  pub rest : List ℕ
  pub bytes : Each IsByte rest
  pub below : text_cmp before path ≡ Less
  pub line : IsLine path
  pub set : IsLineSet lines
  pub spelled : file_of path (text_of lines) ≡ text ++ rest

-- a file of this path and text may come after one of the path before
pub record MayFollow (before path text : List ℕ) : Type 0 where
  pub below : text_cmp before path ≡ Less
  pub lines : List (List ℕ)
  pub set : IsLineSet lines
  pub spelled : text ≡ text_of lines
