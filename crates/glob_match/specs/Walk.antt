-- For private contracts: one walk over the items and the text, and the steps of reading a glob.
use Rattle.std.specs.Prelude.{◌≡◌, ℕ, ◌==◌, Bool, true, if◌then◌else◌, IsTrue, List, [], ◌∷◌, ◌++◌, Option, Some, None, Result, Ok, Err, is_none, flat_map}
use Rattle.glob_match.specs.declared.item.Item.{Item}
use Rattle.glob_match.specs.declared.item.Item.TheVariants.{AnyRun, AnyOne, OneOf, Only}
use Rattle.std.specs.List.{list_all}
use Rattle.std.specs.Option.{option_map}
use Rattle.annex_base.specs.Lines.{dash}
use Rattle.glob_match.specs.declared.fault.GlobFault.{GlobFault}
use Rattle.glob_match.specs.declared.fault.GlobFault.TheVariants.{OpenSet, NoMemory}
use Rattle.glob_match.specs.Glob.{star, question, open_bracket, is_close, is_run, takes, is_item, item_text, IsGlob, HasOpenSet}

-- the first range of a set, and what follows it
abbrev pub range_at : List ℕ → Option (ℕ × ℕ × List ℕ)
range_at [] = None
range_at (a ∷ []) = Some (a, a, [])
range_at (a ∷ b ∷ []) = Some (a, a, b ∷ [])
range_at (a ∷ d ∷ b ∷ rest) = if d == dash then Some (a, b, rest) else Some (a, a, d ∷ b ∷ rest)

abbrev pub char_at : List ℕ → Option (ℕ × List ℕ)
char_at [] = None
char_at (c ∷ cs) = Some (c, cs)

-- what is left after the items up to the next run have taken a character each; nothing where one doesn't fit, or where
-- the items end before the text
abbrev pub segment_at : List Item → List ℕ → Option (List Item × List ℕ)
segment_at [] [] = Some ([], [])
segment_at [] (c ∷ cs) = None
segment_at (i ∷ items) [] = if is_run i then Some (i ∷ items, []) else None
segment_at (i ∷ items) (c ∷ cs) = if is_run i then Some (i ∷ items, c ∷ cs) else (if takes i c then segment_at items cs else None)

abbrev pub or_later : Option (List Item × List ℕ) → Option (List Item × List ℕ) → Option (List Item × List ℕ)
or_later None later = later
or_later (Some x) later = Some x

-- the same at the first place where it goes
abbrev pub find_at : List Item → List ℕ → Option (List Item × List ℕ)
find_at items [] = segment_at items []
find_at items (c ∷ cs) = or_later (segment_at items (c ∷ cs)) (find_at items cs)

-- the characters before the first `]`, and those after it
abbrev pub with_member : ℕ → List ℕ × List ℕ → List ℕ × List ℕ
with_member c x = (c ∷ x.0, x.1)

abbrev pub set_at : List ℕ → Option (List ℕ × List ℕ)
set_at [] = None
set_at (c ∷ cs) = if is_close c then Some ([], cs) else option_map (with_member c) (set_at cs)

-- the item of a set, and what follows it
abbrev pub as_set : List ℕ × List ℕ → Item × List ℕ
as_set x = (OneOf x.0, x.1)

-- the item that begins with this character, and what follows it; nothing where a set is open
abbrev pub item_at : ℕ → List ℕ → Option (Item × List ℕ)
item_at c after = if c == star then Some (AnyRun, after)
    else (if c == question then Some (AnyOne, after)
    else (if c == open_bracket then option_map as_set (set_at after) else Some (Only c, after)))

-- no item begins the text
abbrev pub is_stuck : List ℕ → Bool
is_stuck [] = true
is_stuck (c ∷ cs) = is_none (item_at c cs)

-- the items that are read from a text, up to its end or to an open set
pub record Reads (items : List Item) (rest text : List ℕ) : Type 0 where
  pub items_are : IsTrue (list_all is_item items)
  pub spelled : text ≡ flat_map item_text items ++ rest
  pub stuck : IsTrue (is_stuck rest)

-- what a call tells of a text
abbrev pub Tells : {X : Type 0} → (X → List Item) → Result X GlobFault → List ℕ → Type 0
Tells view (Ok x) text = IsGlob (view x) text
Tells view (Err (OpenSet at)) text = HasOpenSet at text
Tells view (Err NoMemory) text = Unit {0}
