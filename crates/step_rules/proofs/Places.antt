-- Places of a list: what stands there, and what no place has.
use Rattle.std.proofs.Common.{◌≡◌, ℕ, zero, suc, ◌<◌, ◌≤◌, ◌≢◌, List, [], ◌∷◌, ◌++◌, ◌⊎◌, get_or, length, slice_set, take, Some, None, refl, ap, subst, sym, ◌∙◌, arith, inl, inr}
use Rattle.std.specs.Prelude.{slice_get}
use Rattle.annex_base.specs.Lists.{Each}

pub place_past : {X : Type 0} (xs : List X) (i : ℕ) → slice_get xs i ≡ None → length xs ≤ i
place_past [] i none = omega arith
place_past (x ∷ xs) zero none = absurd (cc)
place_past (x ∷ xs) (suc i) none = let far = place_past xs i none in omega (arith, far)

pub place_in : {X : Type 0} (xs : List X) (i : ℕ) (x : X) → slice_get xs i ≡ Some x → i < length xs
place_in [] i x at = absurd (cc)
place_in (y ∷ xs) zero x at = omega arith
place_in (y ∷ xs) (suc i) x at = let low = place_in xs i x at in omega (arith, low)

pub each_at : {X : Type 0} (P : X → Type 0) (xs : List X) (i : ℕ) (x : X) → Each P xs → slice_get xs i ≡ Some x → P x
each_at P [] i x each at = absurd (cc)
each_at {X} P (y ∷ xs) zero x each at = let same : y ≡ x = cc in subst P same each.0
each_at P (y ∷ xs) (suc i) x each at = each_at P xs i x each.1 at

pub place_last : {X : Type 0} (xs : List X) (i : ℕ) (x y : X) → slice_get (xs ++ x ∷ []) i ≡ Some y → ((i ≡ length xs) × (x ≡ y)) ⊎ (slice_get xs i ≡ Some y)
place_last [] zero x y at = inl (refl, cc)
place_last [] (suc i) x y at = absurd (cc)
place_last (z ∷ xs) zero x y at = inr at
place_last (z ∷ xs) (suc i) x y at = elim (place_last xs i x y at) [
  | inl last ↦ (let same = last.0 in inl (omega (arith, same), last.1))
  | inr before ↦ inr before
]

pub at_of : {X : Type 0} (xs : List X) (i : ℕ) (x : X) → i < length xs → x ≡ get_or xs i x → slice_get xs i ≡ Some x
at_of [] i x low is = absurd (omega (arith, low))
at_of (y ∷ xs) zero x low is = ap (λ z. Some z) (sym is)
at_of (y ∷ xs) (suc i) x low is = at_of xs i x (omega (arith, low)) is

pub got : {X : Type 0} (xs : List X) (i : ℕ) (x y d : X) → slice_get xs i ≡ Some x → y ≡ get_or xs i d → x ≡ y
got [] i x y d at is = absurd (cc)
got (z ∷ xs) zero x y d at is = let same : z ≡ x = cc in sym (is ∙ same)
got (z ∷ xs) (suc i) x y d at is = got xs i x y d at is

-- ---- the start of a list

from_take : {X : Type 0} (xs : List X) (n i : ℕ) (x : X) → slice_get (take n xs) i ≡ Some x → (i < n) × (slice_get xs i ≡ Some x)
from_take xs zero i x at = absurd (cc)
from_take [] (suc n) i x at = absurd (cc)
from_take (y ∷ xs) (suc n) zero x at = (omega arith, at)
from_take (y ∷ xs) (suc n) (suc i) x at = let w = from_take xs n i x at in let low = w.0 in (omega (arith, low), w.1)

pub at_start : {X : Type 0} (xs ys : List X) (n i : ℕ) (x : X) → ys ≡ take n xs → i < length ys → x ≡ get_or ys i x → (i < n) × (slice_get xs i ≡ Some x)
at_start xs ys n i x start low is = from_take xs n i x (subst (λ zs. slice_get zs i ≡ Some x) start (at_of ys i x low is))

-- ---- an element put at a place

pub length_set : {X : Type 0} (xs : List X) (i : ℕ) (x : X) → length (slice_set xs i x) ≡ length xs
length_set [] i x = refl
length_set (y ∷ xs) zero x = refl
length_set (y ∷ xs) (suc i) x = ap suc (length_set xs i x)

pub set_here : {X : Type 0} (xs : List X) (i : ℕ) (x y : X) → slice_get (slice_set xs i x) i ≡ Some y → x ≡ y
set_here [] i x y at = absurd (cc)
set_here (z ∷ xs) zero x y at = cc
set_here (z ∷ xs) (suc i) x y at = set_here xs i x y at

pub set_there : {X : Type 0} (xs : List X) (i j : ℕ) (x : X) → j ≢ i → slice_get (slice_set xs i x) j ≡ slice_get xs j
set_there [] i j x apart = refl
set_there (z ∷ xs) zero zero x apart = absurd (apart refl)
set_there (z ∷ xs) zero (suc j) x apart = refl
set_there (z ∷ xs) (suc i) zero x apart = refl
set_there (z ∷ xs) (suc i) (suc j) x apart = set_there xs i j x (λ same. apart (ap suc same))

pub each_set : {X : Type 0} (P : X → Type 0) (xs : List X) (i : ℕ) (x : X) → Each P xs → P x → Each P (slice_set xs i x)
each_set P [] i x each here = tt
each_set P (y ∷ xs) zero x each here = (here, each.1)
each_set P (y ∷ xs) (suc i) x each here = (each.0, each_set P xs i x each.1 here)

pub each_more : {X : Type 0} (P : X → Type 0) (xs : List X) (x : X) → Each P xs → P x → Each P (xs ++ x ∷ [])
each_more P [] x each here = (here, tt)
each_more P (y ∷ xs) x each here = (each.0, each_more P xs x each.1 here)
