-- Steps that may find nothing.
use Rattle.std.proofs.Common.{◌≡◌, ◌⊎◌, inl, inr, Bool, true, false, if◌then◌else◌, List, [], ◌∷◌, Option, Some, None, refl, ◌∙◌}
use Rattle.std.specs.Option.{is_none, option_map, option_or}
use Rattle.annex_base.specs.Lists.{Member}
use Rattle.annex_base.specs.OptionSteps.{◌>>=◌, first_some}

-- the value of a step that found one
pub bind_some : {A B : Type 0} (o : Option A) (f : A → Option B) (y : B) → (o >>= f) ≡ Some y → (x : A) × (o ≡ Some x) × (f x ≡ Some y)
bind_some (Some x) f y e = (x, refl, e)
bind_some None f y e = absurd cc

pub map_some : {A B : Type 0} (o : Option A) (f : A → B) (y : B) → option_map f o ≡ Some y → (x : A) × (o ≡ Some x) × (f x ≡ y)
map_some None f y e = absurd cc
map_some (Some x) f y e = (x, refl, cc)

-- what is found under a test; where that gives a plain value, std has `cond_some`
pub where_some : {A : Type 0} (b : Bool) (o : Option A) (y : A) → (if b then o else None) ≡ Some y → (b ≡ true) × (o ≡ Some y)
where_some true o y e = (refl, e)
where_some false o y e = absurd cc

pub unless_some : {A : Type 0} (b : Bool) (o : Option A) (y : A) → (if b then None else o) ≡ Some y → (b ≡ false) × (o ≡ Some y)
unless_some true o y e = absurd cc
unless_some false o y e = (refl, e)

pub some_where : {A : Type 0} (b : Bool) (x y : A) (o : Option A) → (if b then Some x else o) ≡ Some y → ((b ≡ true) × (x ≡ y)) ⊎ ((b ≡ false) × (o ≡ Some y))
some_where true x y o e = inl (refl, cc)
some_where false x y o e = inr (refl, e)

pub none_by : {A : Type 0} (o : Option A) → ((x : A) → o ≡ Some x → ⊥) → o ≡ None
none_by None h = refl
none_by (Some x) h = absurd (h x refl)

pub none_and_some : {A : Type 0} (o : Option A) (x : A) → o ≡ None → o ≡ Some x → ⊥
none_and_some o x none some = cc

pub some_none : {A : Type 0} (x : A) → Some x ≡ None → ⊥
some_none x e = cc

pub is_none_true : {A : Type 0} (o : Option A) → is_none o ≡ true → o ≡ None
is_none_true None e = refl
is_none_true (Some x) e = absurd cc

-- ---- one or else another

pub option_or-none : {X : Type 0} (o : Option X) → option_or o None ≡ o
option_or-none None = refl
option_or-none (Some x) = refl

pub option_or-was : {X : Type 0} (x y : Option X) (z : X) → option_or x y ≡ Some z → (x ≡ Some z) ⊎ (y ≡ Some z)
option_or-was None y z e = inr e
option_or-was (Some x) y z e = inl e

pub option_or-first : {X : Type 0} (o other : Option X) (x : X) → o ≡ Some x → (y : X) × (option_or o other ≡ Some y)
option_or-first None other x h = cc
option_or-first (Some z) other x h = (z, refl)

pub option_or-other : {X : Type 0} (o other : Option X) (x : X) → other ≡ Some x → (y : X) × (option_or o other ≡ Some y)
option_or-other None other x h = (x, h)
option_or-other (Some z) other x h = (z, refl)

-- the element of a list by which a search ends
pub first_some-was : {X Y : Type 0} (f : X → Option Y) (xs : List X) (y : Y) → first_some f xs ≡ Some y → (x : X) × (Member x xs) × (f x ≡ Some y)
first_some-was f [] y e = absurd (cc)
first_some-was {X = X} {Y = Y} f (x ∷ xs) y e = go (λ g. first_some-was f xs y g) (f x) refl e
  where
    go : (first_some f xs ≡ Some y → (z : X) × (Member z xs) × (f z ≡ Some y)) → (o : Option Y) → f x ≡ o → first_some f (x ∷ xs) ≡ Some y
        → (z : X) × (Member z (x ∷ xs)) × (f z ≡ Some y)
    go more None is g = let w = more (rw is at g) in (w.0, inr w.1, w.2)
    go more (Some z) is g = (x, inl refl, is ∙ (rw is at g))
