-- The numbers of copies of a content, by its paths (git-annex-numcopies, git-annex-mincopies; numbers by path are own).
use Rattle.std.specs.Prelude.{ℕ, max, Bool, false, ◌&&◌, List, [], ◌∷◌, filter, fold, map, Option, Some, None}
use Rattle.std.specs.Str.{chars, is_utf8}
use Rattle.annex_base.specs.Settings.{Settings}
use Rattle.glob_match.specs.declared.item.Item.{Item}
use Rattle.glob_match.specs.Glob.{glob_matches}
use Rattle.glob_match.specs.Spelled.{glob_in}

-- a path that isn't UTF-8 matches no glob (own)
abbrev pub matches_path : List Item → List ℕ → Bool
matches_path glob path = is_utf8 path && glob_matches glob (chars path)

-- a pattern that spells no glob matches nothing (own)
abbrev pub spelled_matches : Option (List Item) → List ℕ → Bool
spelled_matches None path = false
spelled_matches (Some glob) path = matches_path glob path

abbrev pub pattern_matches : List ℕ → List ℕ → Bool
pattern_matches pattern path = spelled_matches (glob_in pattern) path

-- the greatest of some numbers, or what stands for none
abbrev pub greatest_or : ℕ → List ℕ → ℕ
greatest_or none [] = none
greatest_or none (n ∷ ns) = fold max n ns

-- of a path: the greatest number whose pattern matches it, or the whole number where none does
abbrev pub number_of_path : ℕ → List (List ℕ × ℕ) → List ℕ → ℕ
number_of_path whole patterns path = greatest_or whole (map (λ p. p.1) (filter (λ p. pattern_matches p.0 path) patterns))

-- of some paths: the greatest of theirs, or the whole number without a path
abbrev pub number_of_paths : ℕ → List (List ℕ × ℕ) → List (List ℕ) → ℕ
number_of_paths whole patterns paths = greatest_or whole (map (number_of_path whole patterns) paths)

-- how many copies of a content with these paths are to be preserved
abbrev pub numcopies_of : Settings → List (List ℕ) → ℕ
numcopies_of settings paths = number_of_paths settings.numcopies settings.path_numcopies paths

-- how many copies of it are never to be gone below
abbrev pub mincopies_of : Settings → List (List ℕ) → ℕ
mincopies_of settings paths = number_of_paths settings.mincopies settings.path_mincopies paths
