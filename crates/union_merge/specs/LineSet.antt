-- The lines of a file of a branch, as a set (git-annex internals: branch files).
use Rattle.std.specs.Prelude.{◌≢◌, ℕ, Bool, true, false, not, ◌==◌, List, [], ◌∷◌, ◌++◌, filter, flat_map, bytes_eq}
use Rattle.std.specs.List.{fold, list_any, slice_split}
use Rattle.std.specs.List.Sorted.{IsStrictlySortedBy}
use Rattle.std.specs.BTreeSet.{insert_key}
use Rattle.annex_base.specs.ByteOrder.{text_cmp}
use Rattle.annex_base.specs.Lines.{newline}
use Rattle.annex_base.specs.Lists.{Member, Each}

-- a line isn't empty and has no newline
pub record IsLine (line : List ℕ) : Type 0 where
  pub some : line ≢ []
  pub single : ¬ Member newline line

-- a set stands as the list of its lines, each once, in byte order
pub record IsLineSet (lines : List (List ℕ)) : Type 0 where
  pub sorted : IsStrictlySortedBy text_cmp lines
  pub each : Each IsLine lines

-- the lines and one more
abbrev pub with_line : List (List ℕ) → List ℕ → List (List ℕ)
with_line lines line = insert_key text_cmp lines line

-- the lines of both, as files merge (git-annex internals: branch files)
abbrev pub union : List (List ℕ) → List (List ℕ) → List (List ℕ)
union lines others = fold with_line lines others

-- whether the line is one of these
abbrev pub has_line : List (List ℕ) → List ℕ → Bool
has_line lines line = list_any (bytes_eq line) lines

-- those of the lines that the others lack
abbrev pub difference : List (List ℕ) → List (List ℕ) → List (List ℕ)
difference lines others = filter (λ line. not (has_line others line)) lines

abbrev pub is_empty : List ℕ → Bool
is_empty [] = true
is_empty (b ∷ bs) = false

-- the lines of a text, which end at newlines; those that are empty don't count
abbrev pub lines_in : List ℕ → List (List ℕ)
lines_in text = filter (λ line. not (is_empty line)) (slice_split (λ b. b == newline) text)

-- the set of the lines of a text
abbrev pub set_of : List ℕ → List (List ℕ)
set_of text = union [] (lines_in text)

-- the lines as a text, each with its newline
abbrev pub text_of : List (List ℕ) → List ℕ
text_of lines = flat_map (λ line. line ++ newline ∷ []) lines
