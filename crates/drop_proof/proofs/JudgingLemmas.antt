-- The laws of the rule of a drop.
use Rattle.std.proofs.Common.{◌≡◌, ◌≤◌, ◌⊎◌, inl, inr, ℕ, true, min, length, List, [], ◌∷◌, sym, refl, ◌∙◌, subst, arith, Some}
use Rattle.std.specs.Prelude.{All, Contains, count_by, fold}
use Rattle.std.specs.List.{reduce}
use Rattle.std.proofs.lemmas.List.Sums.{sum_by-cons}
use Rattle.std.proofs.lemmas.List.Elements.{All-cons, Contains-push, Contains-append_left, Contains-append_right}
use Rattle.std.proofs.lemmas.Bool.{cases_lt}
use Rattle.std.proofs.lemmas.Bool.Decides.{nat_tests}
use Rattle.drop_proof.specs.declared.evidence.Evidence.{Evidence}
use Rattle.drop_proof.specs.declared.rule.Need.{Need}
use Rattle.drop_proof.specs.declared.rule.Side.{Side}
use Rattle.drop_proof.specs.declared.rule.Side.TheVariants.{Local, Remote}
use Rattle.drop_proof.specs.Judging.{counts, is_enough, MeetsRule, ends, least_end, IsFirstEnd}

-- each item counts where the drop is local
pub count_by-counts_local : (items : List Evidence) → count_by (counts Local) items ≡ length items
count_by-counts_local [] = refl
count_by-counts_local (i ∷ items) =
    sum_by-cons (λ x. 1) i items ∙ grind (arith, count_by-counts_local items)

-- the test, from the rule
pub is_enough-from_MeetsRule : (side : Side) (need : Need) (items : List Evidence) → MeetsRule side need items → is_enough side need items ≡ true
is_enough-from_MeetsRule Local need items h = grind (arith, nat_tests, count_by-counts_local items)
is_enough-from_MeetsRule Remote need items h = grind (arith, nat_tests)

-- one more number, of which the least so far was told
reached_more : (a n : ℕ) (ns : List ℕ) → {end : ℕ} → (end ≡ min a n) ⊎ Contains ns end → (end ≡ a) ⊎ Contains (n ∷ ns) end
reached_more a n ns (inr later) = inr (Contains-append_right (n ∷ []) ns _ later)
reached_more a n ns (inl now) =
    elim (cases_lt a n) [
      | inl less ↦ inl (omega arith)
      | inr more ↦ inr (subst (λ end. Contains (n ∷ ns) end) (omega arith) (Contains-append_left (n ∷ []) ns n (Contains-push [] n)))
    ]

-- the least of some numbers is one of them
fold-min_reached : (a : ℕ) (ns : List ℕ) → (fold min a ns ≡ a) ⊎ Contains ns (fold min a ns)
fold-min_reached a [] = inl refl
fold-min_reached a (n ∷ ns) = reached_more a n ns (fold-min_reached (min a n) ns)

-- and it is at most each
fold-min_le : (a : ℕ) (ns : List ℕ) → (fold min a ns ≤ a) × All (λ n. fold min a ns ≤ n) ns
fold-min_le a [] = (omega arith, λ k d h. omega arith)
fold-min_le a (n ∷ ns) =
    let further = fold-min_le (min a n) ns in
    (omega (arith, further.0), All-cons (λ later. fold min (min a n) ns ≤ later) n ns (omega (arith, further.0)) further.1)

-- so it is one of the first and those after it
reached_first : (n : ℕ) (ns : List ℕ) → {end : ℕ} → (end ≡ n) ⊎ Contains ns end → Contains (n ∷ ns) end
reached_first n ns (inl now) = subst (λ end. Contains (n ∷ ns) end) (sym now) (Contains-append_left (n ∷ []) ns n (Contains-push [] n))
reached_first n ns (inr later) = Contains-append_right (n ∷ []) ns _ later

-- the least of a list is in it, and at most each of it
reduce-min_contained : (ns : List ℕ) (end : ℕ) → reduce min ns ≡ Some end → Contains ns end × All (λ later. end ≤ later) ns
reduce-min_contained [] end h = absurd (grind arith)
reduce-min_contained (n ∷ ns) end h =
    let least : fold min n ns ≡ end = grind arith in
    let below = fold-min_le n ns in
    subst (λ e. Contains (n ∷ ns) e × All (λ later. e ≤ later) (n ∷ ns)) least
    (reached_first n ns (fold-min_reached n ns), All-cons (λ later. fold min n ns ≤ later) n ns below.0 below.1)

-- the least end is that of the hold that ends first
pub least_end-IsFirstEnd : (items : List Evidence) (end : ℕ) → least_end items ≡ Some end → IsFirstEnd items end
least_end-IsFirstEnd items end h = reduce-min_contained (ends items) end h
