-- The files of a branch, as a map of their paths to the sets of their lines (git-annex internals: branch files).
use Rattle.std.specs.Prelude.{◌≡◌, ℕ, List, [], ◌∷◌, Option, Some, None}
use Rattle.std.specs.List.{fold}
use Rattle.std.specs.List.Sorted.{IsStrictlySortedBy}
use Rattle.std.specs.Map.{lookup, keys_of, remove_entry}
use Rattle.std.specs.BTreeMap.{insert_entry, is_at}
use Rattle.annex_base.specs.ByteOrder.{text_cmp}
use Rattle.annex_base.specs.Lists.{Each}
use Rattle.union_merge.specs.LineSet.{IsLine, IsLineSet, union, difference}

-- a branch stands as the list of its files in byte order of path
abbrev pub Files : Type 0
Files = List (List ℕ × List (List ℕ))

-- a path, like a line, isn't empty and has no newline
pub record IsBranch (files : Files) : Type 0 where
  pub sorted : IsStrictlySortedBy text_cmp (keys_of files)
  pub each : Each (λ f. IsLine f.0 × IsLineSet f.1) files

-- the lines of a file, if it is there
abbrev pub file_at : Files → List ℕ → Option (List (List ℕ))
file_at files path = lookup (is_at (text_cmp path)) files

abbrev pub or_none : Option (List (List ℕ)) → List (List ℕ)
or_none None = []
or_none (Some lines) = lines

-- the lines of a file; one that isn't there has none
abbrev pub lines_at : Files → List ℕ → List (List ℕ)
lines_at files path = or_none (file_at files path)

-- the branch with these lines as the file's
abbrev pub with_file : Files → List ℕ → List (List ℕ) → Files
with_file files path lines = insert_entry text_cmp files path lines

-- the branch without the file
abbrev pub without_file : Files → List ℕ → Files
without_file files path = remove_entry (is_at (text_cmp path)) files

-- the branch with the file as it was: with these lines, or not there
abbrev pub with_back : Files → List ℕ → Option (List (List ℕ)) → Files
with_back files path None = without_file files path
with_back files path (Some lines) = with_file files path lines

-- the branch with these lines beside those of the file
abbrev pub merged_file : Files → List ℕ → List (List ℕ) → Files
merged_file files path lines = with_file files path (union (lines_at files path) lines)

-- the same, where there is a line
abbrev pub with_some : Files → List ℕ → List (List ℕ) → Files
with_some files path [] = files
with_some files path (line ∷ lines) = merged_file files path (line ∷ lines)

-- the branch with those of these lines that its file lacks; where it lacks none, the branch stays as it is
abbrev pub with_new_lines : Files → List ℕ → List (List ℕ) → Files
with_new_lines files path lines = with_some files path (difference lines (lines_at files path))

-- path by path, those lines of the other branch's file are added that the file lacks
abbrev pub merge_by_path : Files → Files → Files
merge_by_path files others = fold (λ all f. with_new_lines all f.0 f.1) files others

-- a branch has, path by path, the lines of two others
abbrev pub HasLinesOfBoth : Files → Files → Files → Type 0
HasLinesOfBoth files others both = (path : List ℕ) → lines_at both path ≡ union (lines_at files path) (lines_at others path)

-- the files of both branches, a file of both with the lines of both
abbrev pub merged_branch : Files → Files → Files
merged_branch files others = fold (λ all f. merged_file all f.0 f.1) files others

-- the files of all these branches
abbrev pub merged_branches : Files → List Files → Files
merged_branches files branches = fold merged_branch files branches
