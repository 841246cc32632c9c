-- One element of a list is set.
use Rattle.std.proofs.Common.{◌≡◌, ◌≢◌, ◌⊎◌, inl, inr, ℕ, zero, suc, List, [], ◌∷◌, Some, length, slice_set, refl, sym, ap, arith}
use Rattle.std.specs.Prelude.{slice_get}
use Rattle.std.proofs.lemmas.Option.{same_Some, none-some}

-- what stands at a place is what was set there, or what stood there
pub set_at : {X : Type 0} (xs : List X) (i j : ℕ) (y z : X) → slice_get (slice_set xs i z) j ≡ Some y → ((j ≡ i) × (y ≡ z)) ⊎ ((j ≢ i) × (slice_get xs j ≡ Some y))
set_at [] i j y z at = absurd (none-some y at)
set_at (x ∷ xs) zero zero y z at = inl (refl, sym (same_Some z y at))
set_at (x ∷ xs) zero (suc j) y z at = inr (λ e. omega arith, at)
set_at (x ∷ xs) (suc i) zero y z at = inr (λ e. omega arith, at)
set_at (x ∷ xs) (suc i) (suc j) y z at = elim (set_at xs i j y z at) [
  | inl h ↦ inl (ap suc h.0, h.1)
  | inr h ↦ inr (λ e. h.0 (omega arith), h.1)
]

pub set_same : {X : Type 0} (xs : List X) (i : ℕ) (y z : X) → slice_get xs i ≡ Some y → slice_get (slice_set xs i z) i ≡ Some z
set_same [] i y z at = absurd (none-some y at)
set_same (x ∷ xs) zero y z at = refl
set_same (x ∷ xs) (suc i) y z at = set_same xs i y z at

pub set_other : {X : Type 0} (xs : List X) (i j : ℕ) (z : X) → j ≢ i → slice_get (slice_set xs i z) j ≡ slice_get xs j
set_other [] i j z other = refl
set_other (x ∷ xs) zero zero z other = absurd (other refl)
set_other (x ∷ xs) zero (suc j) z other = refl
set_other (x ∷ xs) (suc i) zero z other = refl
set_other (x ∷ xs) (suc i) (suc j) z other = set_other xs i j z (λ e. other (ap suc e))

pub set_count : {X : Type 0} (xs : List X) (i : ℕ) (z : X) → length (slice_set xs i z) ≡ length xs
set_count [] i z = refl
set_count (x ∷ xs) zero z = refl
set_count (x ∷ xs) (suc i) z = ap suc (set_count xs i z)
