-- Lists that are filtered, and the first of a list.
use Rattle.std.proofs.Common.{◌≡◌, inl, inr, Bool, true, false, List, [], ◌∷◌, ◌++◌, Option, Some, None, refl, sym, ap, ◌∙◌, true≢false}
use Rattle.std.specs.Prelude.{filter, find, flat_map, map, is_some}
use Rattle.std.specs.List.{after_first}
use Rattle.std.proofs.lemmas.Bool.{cases_Bool}
use Rattle.annex_base.specs.Lists.{Each, Member}
use Rattle.driver_model.specs.Driver.{but_first}

-- ---- two tests

module _ {X : Type 0} where
  pub filter_swap : (p q : X → Bool) (xs : List X) → filter p (filter q xs) ≡ filter q (filter p xs)
  filter_swap p q [] = refl
  filter_swap p q (x ∷ xs) = elim (cases_Bool (p x)) [
    | inl i ↦ elim (cases_Bool (q x)) [
      | inl j ↦ rw (j, i, j) (ap (λ (ys : List X). x ∷ ys) (filter_swap p q xs))
      | inr j ↦ rw (j, i, j) (filter_swap p q xs)
    ]
    | inr i ↦ elim (cases_Bool (q x)) [ inl j ↦ rw (j, i) (filter_swap p q xs) | inr j ↦ rw (j, i) (filter_swap p q xs) ]
  ]

  -- a filter that lets pass all that the other does
  pub filter_within : (p q : X → Bool) → ((x : X) → p x ≡ true → q x ≡ true) → (xs : List X) → filter p (filter q xs) ≡ filter p xs
  filter_within p q wider [] = refl
  filter_within p q wider (x ∷ xs) = elim (cases_Bool (p x)) [
    | inl i ↦ let j : q x ≡ true = wider x i in rw (j, i) (ap (λ (ys : List X). x ∷ ys) (filter_within p q wider xs))
    | inr i ↦ elim (cases_Bool (q x)) [ inl j ↦ rw (j, i) (filter_within p q wider xs) | inr j ↦ rw (j, i) (filter_within p q wider xs) ]
  ]

pub filter_mapped : {X Y : Type 0} (f : X → Y) (p : Y → Bool) (q : X → Bool) → ((x : X) → p (f x) ≡ q x) → (xs : List X) → filter p (map f xs) ≡ map f (filter q xs)
filter_mapped f p q same [] = refl
filter_mapped {X} {Y} f p q same (x ∷ xs) = elim (cases_Bool (q x)) [
  | inl is ↦ let here : p (f x) ≡ true = same x ∙ is in rw (here, is) (ap (λ (ys : List Y). f x ∷ ys) (filter_mapped f p q same xs))
  | inr other ↦ let here : p (f x) ≡ false = same x ∙ other in rw (here, other) (filter_mapped f p q same xs)
]

-- ---- all but the first

abbrev pub rest : {X : Type 0} → List X → List X
rest [] = []
rest (x ∷ xs) = xs

pub rest_mapped : {X Y : Type 0} (f : X → Y) (xs : List X) → map f (rest xs) ≡ rest (map f xs)
rest_mapped f [] = refl
rest_mapped f (x ∷ xs) = refl

module _ {X : Type 0} where
  pub rest_after : (p : X → Bool) (xs : List X) → Each (λ x. p x ≡ true) xs → after_first p xs ≡ rest xs
  rest_after p [] all = refl
  rest_after p (x ∷ xs) all = rw all.0 refl

  -- the first to which the test applies goes
  pub but_own : (p q : X → Bool) → ((x : X) → q x ≡ p x) → (xs : List X) → filter p (but_first q xs) ≡ rest (filter p xs)
  but_own p q same [] = refl
  but_own p q same (x ∷ xs) = elim (cases_Bool (p x)) [
    | inl i ↦ let j : q x ≡ true = same x ∙ i in rw (j, i) refl
    | inr i ↦ let j : q x ≡ false = same x ∙ i in rw (j, i) (but_own p q same xs)
  ]

  pub but_other : (p q : X → Bool) → ((x : X) → p x ≡ true → q x ≡ false) → (xs : List X) → filter p (but_first q xs) ≡ filter p xs
  but_other p q apart [] = refl
  but_other p q apart (x ∷ xs) = elim (cases_Bool (p x)) [
    | inl i ↦ let j : q x ≡ false = apart x i in rw (j, i) (ap (λ (ys : List X). x ∷ ys) (but_other p q apart xs))
    | inr i ↦ elim (cases_Bool (q x)) [ inl j ↦ rw (j, i) refl | inr j ↦ rw (j, i) (but_other p q apart xs) ]
  ]

-- ---- the first

abbrev pub first : {X : Type 0} → List X → Option X
first [] = None
first (x ∷ xs) = Some x

pub find_first : {X : Type 0} (p : X → Bool) (xs : List X) → find p xs ≡ first (filter p xs)
find_first p [] = refl
find_first p (x ∷ xs) = elim (cases_Bool (p x)) [ inl i ↦ rw i refl | inr i ↦ rw i (find_first p xs) ]

-- ---- what holds of each

pub flat_map_like : {X Y : Type 0} (f g : X → List Y) (xs : List X) → ((x : X) → Member x xs → f x ≡ g x) → flat_map f xs ≡ flat_map g xs
flat_map_like f g [] same = refl
flat_map_like {X} {Y} f g (x ∷ xs) same =
    ap (λ (ys : List Y). ys ++ flat_map f xs) (same x (inl refl)) ∙ ap (λ (ys : List Y). g x ++ ys) (flat_map_like f g xs (λ y member. same y (inr member)))

pub some_of : {X : Type 0} (o : Option X) → is_some o ≡ true → (x : X) × (o ≡ Some x)
some_of None is = absurd (true≢false (sym is))
some_of (Some x) is = (x, refl)
