-- Lists of words, and a dash where there is none (own).
use Rattle.std.specs.Prelude.{ℕ, List, [], ◌∷◌, ◌++◌, codes, Option, Some, None}
use Rattle.std.specs.List.{flat_map}
use Rattle.std.specs.Fmt.{decimal}

-- items with a byte between them, or a dash
abbrev pub joined_text : {X : Type 0} → ℕ → (X → List ℕ) → List X → List ℕ
joined_text between f [] = 45 ∷ []
joined_text between f (x ∷ xs) = f x ++ flat_map (λ y. between ∷ f y) xs

-- a number, or a dash where there is none
abbrev pub number_or_dash : Option ℕ → List ℕ
number_or_dash None = codes "-"
number_or_dash (Some n) = decimal n
