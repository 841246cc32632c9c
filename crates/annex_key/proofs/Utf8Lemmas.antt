-- The longest front of a name that is UTF-8 without a newline.
use Rattle.std.proofs.Common.{◌⊎◌, inl, inr, ◌≡◌, ℕ, zero, suc, ◌<◌, ◌≤◌, List, [], length, take, IsUtf8, refl, sym, subst, ◌∙◌, arith, ⊎_elim, true≢false, take_all}
use Rattle.std.proofs.lemmas.Bool.{cases_Bool, cases_lt, cond-true, cond-false}
use Rattle.std.proofs.lemmas.Str.{IsUtf8-from_is_utf8, is_utf8-from_IsUtf8}
use Rattle.std.specs.Str.{IsValidUpTo, is_utf8}
use Rattle.std.specs.Str.Lossy.{valid_len_up_to, utf8_valid_len}

longest_front : (bs : List ℕ) (m : ℕ)
    → IsUtf8 (take (valid_len_up_to bs m) bs) × ((k : ℕ) → valid_len_up_to bs m < k → k ≤ m → ¬ (IsUtf8 (take k bs)))
longest_front bs zero = (([], (refl, refl)), λ k above within. absurd (omega arith))
longest_front bs (suc m) =
    let rest = longest_front bs m in
    ⊎_elim
    (λ found.
    let is : valid_len_up_to bs (suc m) ≡ suc m = cond-true _ _ _ found in
    (subst (λ n. IsUtf8 (take n bs)) (sym is) (IsUtf8-from_is_utf8 _ found), λ k above within. absurd (omega arith)))
    (λ missing.
    let is : valid_len_up_to bs (suc m) ≡ valid_len_up_to bs m = cond-false _ _ _ missing in (
      subst (λ n. IsUtf8 (take n bs)) (sym is) rest.0,
      λ k above within u. ⊎_elim
          (λ (top : m < k).
          let same : k ≡ suc m = omega arith in
          true≢false (sym (is_utf8-from_IsUtf8 _ (subst (λ n. IsUtf8 (take n bs)) same u)) ∙ missing))
          (λ (low : k ≤ m). rest.1 k (omega arith) low u)
          (cases_lt m k),
    ))
    (cases_Bool (is_utf8 (take (suc m) bs)))

-- bytes are UTF-8, or they stop being it at `utf8_valid_len`
pub utf8_valid_len-cases : (bs : List ℕ) → IsUtf8 bs ⊎ IsValidUpTo bs (utf8_valid_len bs)
unfolding utf8_valid_len
utf8_valid_len-cases bs =
    let n = utf8_valid_len bs in
    let front = longest_front bs (length bs) in
    ⊎_elim
    (λ (short : n < length bs). inr (record {
      short = short;
      front = front.0;
      longest = λ m above u. ⊎_elim
          (λ (past : length bs < m).
          front.1 (length bs) short (omega arith) (subst IsUtf8 (take_all m bs (omega arith) ∙ sym (take_all (length bs) bs (omega arith))) u))
          (λ (within : m ≤ length bs). front.1 m above within u)
          (cases_lt (length bs) m);
    }))
    (λ (whole : length bs ≤ n). inl (subst IsUtf8 (take_all n bs whole) front.0))
    (cases_lt n (length bs))
