-- What a glob is, and which texts it matches (own). A text is the list of its characters.
use Rattle.std.specs.Prelude.{◌≡◌, ℕ, ◌==◌, Bool, true, false, nat_le, ◌&&◌, ◌||◌, not, if◌then◌else◌, IsTrue, List, [], ◌∷◌, ◌++◌, length, flat_map}
use Rattle.std.specs.Str.{encode_utf8_all}
use Rattle.std.specs.List.{list_all, list_any, concat}
use Rattle.annex_base.specs.Lines.{dash}
use Rattle.glob_match.specs.declared.item.Item.{Item}
use Rattle.glob_match.specs.declared.item.Item.TheVariants.{AnyRun, AnyOne, OneOf, Only}

-- the characters `*`, `?`, `[`, `]`, `!` and `-`
abbrev pub star : ℕ
star = 42

abbrev pub question : ℕ
question = 63

abbrev pub open_bracket : ℕ
open_bracket = 91

abbrev pub close_bracket : ℕ
close_bracket = 93

abbrev pub contrary : ℕ
contrary = 33

abbrev pub is_close : ℕ → Bool
is_close c = c == close_bracket

-- how an item is written
abbrev pub item_text : Item → List ℕ
item_text AnyRun = star ∷ []
item_text AnyOne = question ∷ []
item_text (OneOf members) = open_bracket ∷ (members ++ close_bracket ∷ [])
item_text (Only c) = c ∷ []

-- a set ends at the first `]`; a character that stands for itself is none of `*`, `?` and `[`
abbrev pub is_item : Item → Bool
is_item AnyRun = true
is_item AnyOne = true
is_item (OneOf members) = list_all (λ c. not (is_close c)) members
is_item (Only c) = not (c == star) && not (c == question) && not (c == open_bracket)

-- the items that a text spells, all of the text
pub record IsGlob (items : List Item) (text : List ℕ) : Type 0 where
  pub items_are : IsTrue (list_all is_item items)
  pub spelled : text ≡ flat_map item_text items

-- after some items a `[` stands at this byte, and no `]` follows it
pub record HasOpenSet (at : ℕ) (text : List ℕ) : Type 0 where
  pub front : List Item
  pub rest : List ℕ
  pub items_are : IsTrue (list_all is_item front)
  pub spelled : text ≡ flat_map item_text front ++ open_bracket ∷ rest
  pub never_closed : IsTrue (list_all (λ c. not (is_close c)) rest)
  pub place : at ≡ length (encode_utf8_all (flat_map item_text front))

-- the ranges of a set: a `-` between two characters makes one of both, what follows begins anew, and any other
-- character is the range from itself to itself
abbrev pub ranges : List ℕ → List (ℕ × ℕ)
ranges [] = []
ranges (a ∷ []) = (a, a) ∷ []
ranges (a ∷ b ∷ []) = (a, a) ∷ (b, b) ∷ []
ranges (a ∷ d ∷ b ∷ rest) = if d == dash then (a, b) ∷ ranges rest else (a, a) ∷ ranges (d ∷ b ∷ rest)

abbrev pub in_range : ℕ → ℕ × ℕ → Bool
in_range c r = nat_le r.0 c && nat_le c r.1

abbrev pub in_ranges : List ℕ → ℕ → Bool
in_ranges members c = list_any (in_range c) (ranges members)

-- whether a character is in a set; a leading `!` takes the contrary
abbrev pub in_set : List ℕ → ℕ → Bool
in_set [] c = false
in_set (m ∷ members) c = if m == contrary then not (in_ranges members c) else in_ranges (m ∷ members) c

-- a part of a text fits an item: any part `*`, one character `?`, one character of the set `[..]`, and the
-- character itself any other
abbrev pub FitsItem : Item → List ℕ → Type 0
FitsItem AnyRun part = Unit {0}
FitsItem AnyOne part = length part ≡ 1
FitsItem (OneOf members) part = (c : ℕ) × (part ≡ c ∷ []) × IsTrue (in_set members c)
FitsItem (Only c) part = part ≡ c ∷ []

-- there are as many parts as items, and each fits its item
abbrev pub FitEach : List Item → List (List ℕ) → Type 0
FitEach [] [] = Unit {0}
FitEach [] (part ∷ parts) = ⊥
FitEach (i ∷ items) [] = ⊥
FitEach (i ∷ items) (part ∷ parts) = FitsItem i part × FitEach items parts

-- a text matches where it can be cut into parts that fit the items
pub record IsMatch (items : List Item) (text : List ℕ) : Type 0 where
  pub parts : List (List ℕ)
  pub fit : FitEach items parts
  pub cut : text ≡ concat parts

-- The same as a test.

abbrev pub is_run : Item → Bool
is_run AnyRun = true
is_run AnyOne = false
is_run (OneOf members) = false
is_run (Only c) = false

-- whether an item of one character takes this one
abbrev pub takes : Item → ℕ → Bool
takes AnyRun c = false
takes AnyOne c = true
takes (OneOf members) c = in_set members c
takes (Only d) c = d == c

abbrev pub is_nothing : List ℕ → Bool
is_nothing [] = true
is_nothing (c ∷ cs) = false

-- whether what is left after some front passes
abbrev pub some_rest : (List ℕ → Bool) → List ℕ → Bool
some_rest passes [] = passes []
some_rest passes (c ∷ cs) = passes (c ∷ cs) || some_rest passes cs

-- whether there is a first character, it and the rest passing
abbrev pub first_and_rest : (ℕ → Bool) → (List ℕ → Bool) → List ℕ → Bool
first_and_rest one passes [] = false
first_and_rest one passes (c ∷ cs) = one c && passes cs

-- whether the items match the text
abbrev pub glob_matches : List Item → List ℕ → Bool
glob_matches [] text = is_nothing text
glob_matches (i ∷ items) text = if is_run i then some_rest (glob_matches items) text else first_and_rest (takes i) (glob_matches items) text
