-- The place of a line in a list in order, and what sorting a list leaves.
use Rattle.std.proofs.Common.{◌≡◌, inl, inr, ℕ, zero, suc, ◌+◌, ◌<◌, ◌≤◌, List, [], ◌∷◌, true, false, length, get_or, Result, Ok, Err, arith, refl, sym, ap, subst, ◌∙◌}
use Rattle.std.specs.declared.cmp.Ordering.{Ordering}
use Rattle.std.specs.declared.cmp.Ordering.TheVariants.{Less, Greater}
use Rattle.std.specs.Ordering.{is_lt}
use Rattle.std.specs.Bool.{nat_eq}
use Rattle.std.specs.List.{dedup, insert}
use Rattle.std.specs.List.Sorted.{IsBinarySearchResult, IsSortedBy, IsSorted, IsPermutation}
use Rattle.std.specs.List.Retain.{IsFiltered, DiffersFromLast}
use Rattle.std.specs.Cmp.Lexicographic.{pointwise, texts_ties}
use Rattle.std.specs.Result.{MatchResult, OnOk, OnErr, IfErr}
use Rattle.std.proofs.lemmas.Cmp.{nat_list_cmp_total, nat_list_eq_equiv}
use Rattle.std.proofs.lemmas.List.Filters.{dedup_is}
use Rattle.std.proofs.lemmas.List.Kept.{IsStrictlySortedBy-dedup, Contains-dedup, Contains-from_dedup}
use Rattle.std.proofs.lemmas.List.Sorted.{searchable_from_sorted, Contains-permutation, IsPermutation-sym}
use Rattle.std.proofs.lemmas.Bool.{cases_lt}
use Rattle.std.proofs.lemmas.Slice.Eq.{bytes_eq-Decides}
use Rattle.std.proofs.lemmas.Map.Keys.{Less-from_sorted}
use Rattle.annex_base.specs.ByteOrder.{text_cmp, IsInOrder}
use Rattle.annex_base.specs.Lists.{Member}
use Rattle.annex_base.proofs.Lists.{Member-at, Member-from_Contains, Contains-from_Member}
use Rattle.annex_base.proofs.TextOrder.{before_after, after_before, same_text, Before-other, order_nil}
use Rattle.union_merge.specs.LineSet.{with_line, union}
use Rattle.union_merge.proofs.SetLemmas.{Lines, with_line-below, with_line-above, union-is}

-- ---- a binary search

not_less : (o : Ordering) → o ≡ Greater → is_lt o ≡ false
not_less o is = ap is_lt is

rises : (xs : Lines) → IsInOrder xs → IsSortedBy (λ a b. is_lt (text_cmp a b)) xs
rises xs sorted = λ k d low high.
    not_less (text_cmp (get_or xs (k + 1) d) (get_or xs k d)) (before_after (get_or xs k d) (get_or xs (k + 1) d) (Less-from_sorted text_cmp xs k (k + 1) d sorted (omega arith) high))

-- where the lines below and those above meet, the line goes
insert-is : (line : List ℕ) (xs : Lines) (i : ℕ) → i ≤ length xs
    → ((k : ℕ) (d : List ℕ) → 0 ≤ k → k < i → text_cmp (get_or xs k d) line ≡ Less)
    → ((k : ℕ) (d : List ℕ) → i ≤ k → k < length xs → text_cmp (get_or xs k d) line ≡ Greater)
    → insert xs i line ≡ with_line xs line
insert-is line [] zero within front back = refl
insert-is line [] (suc i) within front back = absurd (omega (arith, within))
insert-is line (x ∷ xs) zero within front back = sym (with_line-below x line xs (after_before x line (back 0 line (omega arith) (omega arith))))
insert-is line (x ∷ xs) (suc i) within front back =
    ap (λ (w : Lines). x ∷ w) (insert-is line xs i (omega arith) (λ k d low high. front (suc k) d (omega arith) (omega arith)) (λ k d low high. back (suc k) d (omega arith) (omega arith)))
    ∙ sym (with_line-above x line xs (front 0 line (omega arith) (omega arith)))

not_among : (line : List ℕ) (xs : Lines) (i : ℕ)
    → ((k : ℕ) (d : List ℕ) → 0 ≤ k → k < i → text_cmp (get_or xs k d) line ≡ Less)
    → ((k : ℕ) (d : List ℕ) → i ≤ k → k < length xs → text_cmp (get_or xs k d) line ≡ Greater)
    → Member line xs → ⊥
not_among line xs i front back among =
    let c = Contains-from_Member xs line among in
    elim (cases_lt c.0 i) [
      | inl low ↦ Before-other (get_or xs c.0 line) line (front c.0 line (omega arith) low) c.2
      | inr high ↦ Before-other line (get_or xs c.0 line) (after_before (get_or xs c.0 line) line (back c.0 line high c.1)) (sym c.2)
    ]

pub searched : (line : List ℕ) (xs : Lines) (r : Result ℕ ℕ) → IsInOrder xs → MatchResult r (λ i. i < length xs) (λ i. i ≤ length xs) → IsBinarySearchResult (λ y. text_cmp y line) xs r
    → MatchResult r (λ i. Member line xs) (λ i. (insert xs i line ≡ with_line xs line) × (Member line xs → ⊥))
searched line xs (Ok i) sorted within found = subst (λ w. Member w xs) (same_text (get_or xs i line) line (found line)) (Member-at xs i line within)
searched line xs (Err i) sorted within parts =
    let cut = parts (searchable_from_sorted nat_list_cmp_total (λ w. w) xs line (rises xs sorted)) in
    (insert-is line xs i within cut.0 cut.1, not_among line xs i cut.0 cut.1)

-- ---- a sort

-- a sorted list without its doubles is the set of the lines
pub sorted_set : (xs ys zs : Lines) → IsPermutation xs ys → IsSorted text_cmp ys → IsFiltered (DiffersFromLast (pointwise nat_eq)) [] ys zs → zs ≡ union [] xs
sorted_set xs ys zs moved sorted kept =
    let is = dedup_is (pointwise nat_eq) ys zs kept in
    is ∙ union-is [] xs (dedup (pointwise nat_eq) ys) order_nil
    (IsStrictlySortedBy-dedup nat_list_cmp_total texts_ties ys sorted)
    (λ z among. inr (Member-from_Contains xs z (Contains-permutation ys xs z (IsPermutation-sym xs ys moved) (Contains-from_dedup (pointwise nat_eq) ys z (Contains-from_Member (dedup (pointwise nat_eq) ys) z among)))))
    (λ z none. absurd none)
    (λ z among. Member-from_Contains (dedup (pointwise nat_eq) ys) z (Contains-dedup nat_list_eq_equiv (λ x y. bytes_exact x y) ys z (Contains-permutation xs ys z moved (Contains-from_Member xs z among)))) where
      bytes_exact : (x y : List ℕ) → pointwise nat_eq x y ≡ true → x ≡ y
      bytes_exact x y same = (bytes_eq-Decides x y).0 same

pub place_found : (line : List ℕ) (xs : Lines) (r : Result ℕ ℕ) → MatchResult r (λ i. Member line xs) (λ i. (insert xs i line ≡ with_line xs line) × (Member line xs → ⊥)) → OnOk r (Member line xs)
place_found line xs (Ok i) h = h
place_found line xs (Err i) h = tt

pub place_missing : (line : List ℕ) (xs : Lines) (r : Result ℕ ℕ) → MatchResult r (λ i. Member line xs) (λ i. (insert xs i line ≡ with_line xs line) × (Member line xs → ⊥)) → OnErr r (Member line xs → ⊥)
place_missing line xs (Ok i) h = tt
place_missing line xs (Err i) h = h.1

pub place_is : (line : List ℕ) (xs : Lines) (r : Result ℕ ℕ) → MatchResult r (λ i. Member line xs) (λ i. (insert xs i line ≡ with_line xs line) × (Member line xs → ⊥)) → IfErr r (λ at. insert xs at line ≡ with_line xs line)
place_is line xs (Ok i) h = tt
place_is line xs (Err i) h = h.0
