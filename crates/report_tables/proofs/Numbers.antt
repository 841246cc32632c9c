-- Numbers that pass a test, one after the other.
use Rattle.std.proofs.Common.{◌≡◌, Bool, true, false, filter, ℕ, ◌+◌, List, [], ◌∷◌, ◌++◌, refl, ◌∙◌, ap, append-nil}
use Rattle.std.specs.List.{range_with_len}
use Rattle.std.proofs.lemmas.List.Elements.{filter-append}
use Rattle.annex_base.proofs.Numbers.{range_more}

-- one more number that passes the test
pub filter_kept : (p : ℕ → Bool) (n : ℕ) (old new : List ℕ) → p n ≡ true → old ≡ filter p (range_with_len 0 n) → new ≡ old ++ n ∷ [] → new ≡ filter p (range_with_len 0 (n + 1))
filter_kept p n old new passes was is =
    let last : filter p (n ∷ []) ≡ n ∷ [] = rw passes refl in
    rw (range_more n, filter-append p (range_with_len 0 n) (n ∷ []), last) (is ∙ ap (λ (l : List ℕ). l ++ n ∷ []) was)

-- one more number that doesn't
pub filter_left : (p : ℕ → Bool) (n : ℕ) (old new : List ℕ) → p n ≡ false → old ≡ filter p (range_with_len 0 n) → new ≡ old → new ≡ filter p (range_with_len 0 (n + 1))
filter_left p n old new fails was is =
    let last : filter p (n ∷ []) ≡ [] = rw fails refl in
    rw (range_more n, filter-append p (range_with_len 0 n) (n ∷ []), last, append-nil) (is ∙ was)
