-- A set is gone through range by range.
use Rattle.std.proofs.Common.{◌≡◌, ℕ, ◌<◌, ◌||◌, ◌==◌, Bool, List, [], ◌∷◌, Some, refl, ap, subst, ◌∙◌, ◌⊎◌, arith}
use Rattle.std.proofs.lemmas.Bool.Decides.{nat_tests}
use Rattle.std.specs.List.{list_any}
use Rattle.annex_base.specs.Lines.{dash}
use Rattle.annex_base.proofs.Conditions.{by_test}
use Rattle.glob_match.specs.Glob.{ranges, in_range, in_ranges}
use Rattle.glob_match.specs.Walk.{range_at}

-- the first range of what members spell is this one
abbrev Begins : List ℕ → ℕ × ℕ × List ℕ → Type 0
Begins members r = ranges members ≡ (r.0, r.1) ∷ ranges r.2

same_begins : (members : List ℕ) (r q : ℕ × ℕ × List ℕ) → Some r ≡ Some q → Begins members q → Begins members r
same_begins members r q e b = let k : q ≡ r = cc in subst (Begins members) k b

first_range : (members : List ℕ) (r : ℕ × ℕ × List ℕ) → Some r ≡ range_at members → Begins members r
first_range [] r e = cc
first_range (x ∷ []) r e = same_begins (x ∷ []) r (x, x, []) e refl
first_range (x ∷ y ∷ []) r e = same_begins (x ∷ y ∷ []) r (x, x, y ∷ []) e refl
first_range (x ∷ y ∷ z ∷ rest) r e =
    by_test (y == dash)
    (λ t. same_begins (x ∷ y ∷ z ∷ rest) r (x, z, rest) (e ∙ rw t refl) (rw t refl))
    (λ t. same_begins (x ∷ y ∷ z ∷ rest) r (x, x, y ∷ z ∷ rest) (e ∙ rw t refl) (rw t refl))

pub in_ranges_step : (members : List ℕ) (c a b : ℕ) (after : List ℕ) → Some (a, b, after) ≡ range_at members → in_ranges members c ≡ (in_range c (a, b) || in_ranges after c)
in_ranges_step members c a b after e = ap (λ (rs : List (ℕ × ℕ)). list_any (in_range c) rs) (first_range members (a, b, after) e)

pub outside : (a b c : ℕ) (q : Bool) → (c < a) ⊎ (b < c) → (in_range c (a, b) || q) ≡ q
outside a b c q h = grind (arith, nat_tests)
