-- Lines that are owed: the first of some, and those of the copies of some repositories (own).
use Rattle.std.specs.Prelude.{◌≡◌, ℕ, ◌<◌, List, [], ◌∷◌, drop, Option, Some, None}
use Rattle.node_model.specs.OwedLines.{OwedLine}

-- it is the first of these, where there are any
abbrev pub IsFirst : Option OwedLine → List OwedLine → Type 0
IsFirst None os = os ≡ []
IsFirst (Some o) os = os ≡ o ∷ drop 1 os

-- the line is of the copy of one of so many repositories
abbrev pub IsWithin : ℕ → OwedLine → Type 0
IsWithin count o = o.repo < count
