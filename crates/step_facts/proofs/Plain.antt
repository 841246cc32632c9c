-- Plain facts of booleans, options and lists.
use Rattle.std.proofs.Common.{◌≡◌, ℕ, Bool, true, false, cond, List, [], ◌∷◌, Option, Some, None, inl, inr, refl, ap}
use Rattle.std.specs.Prelude.{filter, map, if◌then◌else◌, ◌==◌}
use Rattle.std.proofs.lemmas.Bool.{eqb-true}
use Rattle.annex_base.proofs.Conditions.{eqb_refl}
use Rattle.annex_base.proofs.Lists.{Each-member, Member-map}
use Rattle.node_model.specs.Rows.{option_is}
use Rattle.annex_base.specs.Lists.{Each, Member}

pub option_same : (o : Option ℕ) (n : ℕ) → option_is o n ≡ true → o ≡ Some n
option_same None n e = absurd (cc)
option_same (Some m) n e = ap (λ x. Some x) (eqb-true m n e)

pub option_at : (o : Option ℕ) (n : ℕ) → o ≡ Some n → option_is o n ≡ true
option_at o n e = rw e (eqb_refl n)

pub option_other : (o : Option ℕ) (m n : ℕ) → o ≡ Some m → (m == n) ≡ false → option_is o n ≡ false
option_other o m n e apart = rw e apart

pub each_map : {X Y : Type 0} (P : Y → Type 0) (f : X → Y) (xs : List X) (x : X) → Each P (map f xs) → Member x xs → P (f x)
each_map P f xs x all m = Each-member P (map f xs) (f x) all (Member-map f xs x m)

pub member_mapped : {X Y : Type 0} (f : X → Y) (xs : List X) (y : Y) → Member y (map f xs) → (x : X) × Member x xs × (y ≡ f x)
member_mapped f [] y m = absurd m
member_mapped f (x ∷ xs) y (inl m) = (x, inl refl, m)
member_mapped f (x ∷ xs) y (inr m) = let z = member_mapped f xs y m in (z.0, inr z.1, z.2)

pub one_in : {X : Type 0} (b : Bool) (x y : X) → Member y (if b then x ∷ [] else []) → (b ≡ true) × (y ≡ x)
one_in true x y (inl e) = (refl, e)
one_in true x y (inr m) = absurd m
one_in false x y m = absurd m

pub filter_map : {X Y : Type 0} (p : Y → Bool) (f : X → Y) (xs : List X) → filter p (map f xs) ≡ map f (filter (λ x. p (f x)) xs)
filter_map p f [] = refl
filter_map p f (x ∷ xs) = go (filter_map p f xs) (p (f x))
  where
    go : filter p (map f xs) ≡ map f (filter (λ y. p (f y)) xs) → (b : Bool) → cond b (f x ∷ filter p (map f xs)) (filter p (map f xs)) ≡ map f (cond b (x ∷ filter (λ y. p (f y)) xs) (filter (λ y. p (f y)) xs))
    go ih true = ap (λ zs. f x ∷ zs) ih
    go ih false = ih
