-- What becomes of a file that is written; for private contracts.
use Rattle.std.specs.Prelude.{◌≡◌, ℕ, List}
use Rattle.union_merge.specs.Branch.{Files, lines_at, with_back, with_file}
use Rattle.union_merge.specs.LineSet.{difference, union}
use Rattle.store_entries.specs.declared.changing.Change.{Change}
use Rattle.store_entries.specs.declared.changing.Change.TheVariants.{Add, Replace}
use Rattle.store_entries.specs.declared.changing.Undo.{Undo}
use Rattle.store_entries.specs.declared.changing.Undo.TheVariants.{TakeOff, PutBack}

-- the lines of a file after a change
abbrev pub lines_after_change : Change → List (List ℕ) → List (List ℕ)
lines_after_change (Add new) lines = union lines new.now
lines_after_change (Replace all) lines = all

-- the branch after the change of a file
abbrev pub changed_file : Files → List ℕ → Change → Files
changed_file files path change = with_file files path (lines_after_change change (lines_at files path))

-- these lines have none of the others
abbrev pub AreNew : List (List ℕ) → List (List ℕ) → Type 0
AreNew new lines = difference new lines ≡ new

-- what is added to these lines is new
abbrev pub AddsNew : Change → List (List ℕ) → Type 0
AddsNew (Add new) lines = AreNew new.now lines
AddsNew (Replace all) lines = Unit {0}

-- the branch after the change of a file is undone
abbrev pub after_undo : Files → List ℕ → Undo → Files
after_undo files path (TakeOff new) = with_file files path (difference (lines_at files path) new.now)
after_undo files path (PutBack was) = with_back files path was
