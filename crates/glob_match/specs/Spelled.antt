-- The glob that a text spells, read from left to right (own).
use Rattle.std.specs.Prelude.{ℕ, ◌==◌, if◌then◌else◌, List, [], ◌∷◌, ◌++◌, Option, Some, None, option_map}
use Rattle.std.specs.Str.{chars, is_utf8}
use Rattle.glob_match.specs.declared.item.Item.{Item}
use Rattle.glob_match.specs.declared.item.Item.TheVariants.{AnyRun, AnyOne, OneOf, Only}
use Rattle.glob_match.specs.Glob.{star, question, open_bracket, is_close}

-- A set is open with the characters that stand in it so far, or none is.

-- the item that this character ends, if it ends one
abbrev pub item_ended : Option (List ℕ) → ℕ → List Item
item_ended None c = if c == star then AnyRun ∷ [] else (if c == question then AnyOne ∷ [] else (if c == open_bracket then [] else Only c ∷ []))
item_ended (Some members) c = if is_close c then OneOf members ∷ [] else []

-- the set that is open behind this character
abbrev pub set_after : Option (List ℕ) → ℕ → Option (List ℕ)
set_after None c = if c == open_bracket then Some [] else None
set_after (Some members) c = if is_close c then None else Some (members ++ c ∷ [])

-- the items of these characters; none where a set is open at their end
abbrev pub items_from : Option (List ℕ) → List ℕ → Option (List Item)
items_from None [] = Some []
items_from (Some members) [] = None
items_from set (c ∷ cs) = option_map (λ items. item_ended set c ++ items) (items_from (set_after set c) cs)

-- the glob that a text in bytes spells; one that isn't UTF-8, or that has a set that is never closed, spells none
unfoldable pub glob_in : List ℕ → Option (List Item)
glob_in text = if is_utf8 text then items_from None (chars text) else None
