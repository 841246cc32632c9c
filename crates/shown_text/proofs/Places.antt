-- Lists made place by place.
use Rattle.std.proofs.Common.{◌≡◌, ◌⊎◌, ℕ, zero, suc, ◌+◌, ◌-◌, ◌≤◌, min, List, [], ◌++◌, refl, sym, ◌∙◌, ap, arith, append_assoc, append-nil, add-one, add-zero, zero-add, inl, inr}
use Rattle.std.specs.List.{flat_map, range_with_len}
use Rattle.std.proofs.lemmas.Bool.{cases_lt}

-- one more number
pub flat_map_suc : {A : Type 0} (f : ℕ → List A) (a n : ℕ) → flat_map f (range_with_len a (suc n)) ≡ flat_map f (range_with_len a n) ++ f (a + n)
flat_map_suc f a zero = rw (add-zero, append-nil) refl
flat_map_suc f a (suc n) =
    let place : (a + 1) + n ≡ a + suc n = omega arith in
    rw (flat_map_suc f (a + 1) n, place) (sym (append_assoc (f a) _ _))

-- one more place
pub flat_map_place : {A : Type 0} (f : ℕ → List A) (from place : ℕ) → from ≤ place
    → flat_map f (range_with_len from ((place + 1) - from)) ≡ flat_map f (range_with_len from (place - from)) ++ f place
flat_map_place f from place h =
    let count : (place + 1) - from ≡ suc (place - from) = omega arith in
    let last : from + (place - from) ≡ place = omega arith in
    rw (count, flat_map_suc f from (place - from), last) refl

-- no place at all
pub flat_map_none : {A : Type 0} (f : ℕ → List A) (len : ℕ) → ((i : ℕ) → len ≤ i → f i ≡ []) → (a n : ℕ) → len ≤ a → flat_map f (range_with_len a n) ≡ []
flat_map_none f len past a zero h = refl
flat_map_none f len past a (suc n) h =
    let more : len ≤ a + 1 = omega arith in
    rw (past a h, flat_map_none f len past (a + 1) n more) refl

-- the places from some place on add nothing
pub flat_map_within : {A : Type 0} (f : ℕ → List A) (len : ℕ) → ((i : ℕ) → len ≤ i → f i ≡ []) → (a n : ℕ)
    → flat_map f (range_with_len a n) ≡ flat_map f (range_with_len a (min (a + n) len - a))
flat_map_within f len past a zero = let none : min (a + 0) len - a ≡ 0 = omega arith in rw none refl
flat_map_within {A = A} f len past a (suc n) =
    elim (cases_lt a len) [
      | inl h ↦
          let count : min (a + suc n) len - a ≡ suc (min ((a + 1) + n) len - (a + 1)) = omega arith in
          rw count (ap (λ (l : List A). f a ++ l) (flat_map_within f len past (a + 1) n))
      | inr h ↦
          let count : min (a + suc n) len - a ≡ 0 = omega arith in
          rw count (flat_map_none f len past a (suc n) h)
    ]

-- the places up to the bound, however far a walk from `from` to a bound within the length went
pub flat_map_walked : {A : Type 0} (f : ℕ → List A) (len : ℕ) → ((i : ℕ) → len ≤ i → f i ≡ []) → (from upto place : ℕ)
    → min upto len ≤ place → (place ≡ from) ⊎ (place ≤ min upto len)
    → flat_map f (range_with_len from (place - from)) ≡ flat_map f (range_with_len from (upto - from))
flat_map_walked f len past from upto place far at =
    elim (cases_lt upto from) [
      | inl h ↦
          let first : place - from ≡ 0 = omega arith in
          let second : upto - from ≡ 0 = omega arith in
          rw (first, second) refl
      | inr h ↦
          let count : min (from + (upto - from)) len - from ≡ place - from = omega arith in
          rw (← count) (sym (flat_map_within f len past from (upto - from)))
    ]

-- the text so far, with that of the next number
pub numbered_more : (f : ℕ → List ℕ) (place : ℕ) (old out new : List ℕ) → out ≡ old ++ flat_map f (range_with_len 0 place) → new ≡ out ++ f place
    → new ≡ old ++ flat_map f (range_with_len 0 (place + 1))
numbered_more f place old out new so_far is =
    let more : flat_map f (range_with_len 0 (place + 1)) ≡ flat_map f (range_with_len 0 place) ++ f place = rw (add-one, flat_map_suc f 0 place, zero-add) refl in
    is ∙ ap (λ (l : List ℕ). l ++ f place) so_far ∙ append_assoc old _ _ ∙ ap (λ (l : List ℕ). old ++ l) (sym more)
