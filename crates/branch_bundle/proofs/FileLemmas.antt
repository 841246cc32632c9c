-- Files and their paths.
use Rattle.std.proofs.Common.{◌≡◌, ℕ, List, [], ◌∷◌, refl}
use Rattle.std.specs.Map.{keys_of}
use Rattle.annex_base.specs.ByteOrder.{Before}
use Rattle.union_merge.specs.LineSet.{IsLine, IsLineSet, set_of, text_of}
use Rattle.union_merge.specs.Branch.{Files, with_file}
use Rattle.annex_base.proofs.TextOrder.{before_after, order_nil}

abbrev pub Lines : Type 0
Lines = List (List ℕ)

abbrev pub File : Type 0
File = List ℕ × Lines

abbrev pub Paths : Files → Lines
Paths files = keys_of files

abbrev pub IsFile : File → Type 0
IsFile f = IsLine f.0 × IsLineSet f.1

pub empty-is_set : IsLineSet []
empty-is_set = record { sorted = order_nil; each = tt }

pub with_file-above : (f : File) (files : Files) (path : List ℕ) (lines : Lines) → Before f.0 path → with_file (f ∷ files) path lines ≡ f ∷ with_file files path lines
with_file-above f files path lines more = let e = before_after f.0 path more in rw e refl

-- the text of a set of lines is read back as that set
abbrev pub ReadsBack : Type 0
ReadsBack = (lines : Lines) → IsLineSet lines → set_of (text_of lines) ≡ lines
