-- Numbers in decimal, however great.
use Rattle.std.proofs.Common.{◌≡◌, ◌⊎◌, inl, inr, ℕ, zero, suc, ◌+◌, ◌-◌, ◌*◌, ◌/◌, ◌%◌, ◌<◌, ◌≤◌, ◌^◌, List, [], ◌∷◌, ◌++◌, arith, refl, sym, ap, subst, ◌∙◌, append_assoc, add-one}
use Rattle.std.specs.Fmt.{decimal}
use Rattle.std.proofs.lemmas.List.{append-nil}
use Rattle.std.proofs.lemmas.Bool.{cases_lt, lt-ltb, le-ltb}
use Rattle.std.proofs.lemmas.Fmt.{decimal_from_appends, length-decimal-le_succ}
use Rattle.annex_base.specs.Lists.{Each}
use Rattle.annex_base.proofs.Lists.{Each-append}
use Rattle.branch_bundle.specs.Bundle.{digits_in, number_text}

abbrev pub IsDigit : ℕ → Type 0
IsDigit d = (48 ≤ d) × (d ≤ 57)

pub digits_in-one : (k n : ℕ) → n < 10 → digits_in (suc k) n ≡ (48 + n) ∷ []
unfolding digits_in
digits_in-one k n small = let e = lt-ltb n 10 small in rw e refl

pub digits_in-more : (k n : ℕ) → 10 ≤ n → digits_in (suc k) n ≡ digits_in k (n / 10) ++ (48 + n % 10) ∷ []
unfolding digits_in
digits_in-more k n large = let e = le-ltb n 10 large in rw e refl

-- more room changes nothing
digits_in-room : (k j n : ℕ) → n < k → n < j → digits_in k n ≡ digits_in j n
digits_in-room zero j n small room = absurd (omega arith)
digits_in-room (suc k) zero n small room = absurd (omega arith)
digits_in-room (suc k) (suc j) n small room = elim (cases_lt n 10) [
  | inl one ↦ digits_in-one k n one ∙ sym (digits_in-one j n one)
  | inr more ↦ digits_in-more k n more ∙ ap (λ (w : List ℕ). w ++ (48 + n % 10) ∷ []) (digits_in-room k j (n / 10) (omega arith) (omega arith)) ∙ sym (digits_in-more j n more)
]

pub number_text-one : (n : ℕ) → n < 10 → number_text n ≡ (48 + n) ∷ []
number_text-one n small = ap (λ k. digits_in k n) (add-one n) ∙ digits_in-one n n small

pub number_text-more : (n d : ℕ) → 0 < n → d < 10 → number_text (n * 10 + d) ≡ number_text n ++ (48 + d) ∷ []
number_text-more n d some small =
    let front : (n * 10 + d) / 10 ≡ n = omega arith in
    let last : (n * 10 + d) % 10 ≡ d = omega arith in
    ap (λ k. digits_in k (n * 10 + d)) (add-one (n * 10 + d))
    ∙ digits_in-more (n * 10 + d) (n * 10 + d) (omega arith)
    ∙ ap (λ m. digits_in (n * 10 + d) m ++ (48 + (n * 10 + d) % 10) ∷ []) front
    ∙ ap (λ m. digits_in (n * 10 + d) n ++ (48 + m) ∷ []) last
    ∙ ap (λ (w : List ℕ). w ++ (48 + d) ∷ []) (digits_in-room (n * 10 + d) (n + 1) n (omega arith) (omega arith))

-- below 2 ^ 64 it is what printing gives
pub number_text-decimal : (n : ℕ) → n < 2 ^ 64 → number_text n ≡ decimal n
number_text-decimal n small =
    decimal_from_appends digits_in (record { one = λ k m h. digits_in-one k m h; more = λ k m h. digits_in-more k m h }) (n + 1) n small (length-decimal-le_succ n small)

-- ---- its digits

digits_in-first : (k n : ℕ) → n < k → 0 < n → (d : ℕ) × (ds : List ℕ) × (digits_in k n ≡ d ∷ ds) × (48 < d) × (d ≤ 57) × Each IsDigit ds
digits_in-first zero n room some = absurd (omega arith)
digits_in-first (suc k) n room some = elim (cases_lt n 10) [
  | inl one ↦ (48 + n, [], digits_in-one k n one, omega arith, omega arith, tt)
  | inr more ↦
      let h = digits_in-first k (n / 10) (omega arith) (omega arith) in
      (h.0, h.1 ++ (48 + n % 10) ∷ [], digits_in-more k n more ∙ ap (λ (w : List ℕ). w ++ (48 + n % 10) ∷ []) h.2, h.3, h.4, Each-append IsDigit h.1 ((48 + n % 10) ∷ []) h.5 ((omega arith, omega arith), tt))
]

-- the digits of a number that isn't zero begin with one that isn't zero
pub number_text-first : (n : ℕ) → 0 < n → (d : ℕ) × (ds : List ℕ) × (number_text n ≡ d ∷ ds) × (48 < d) × (d ≤ 57) × Each IsDigit ds
number_text-first n some = digits_in-first (n + 1) n (omega arith) some

number_text-zero : number_text 0 ≡ 48 ∷ []
number_text-zero = number_text-one 0 (omega arith)

zero_or_more : (n : ℕ) → (n ≡ 0) ⊎ (0 < n)
zero_or_more zero = inl refl
zero_or_more (suc n) = inr (omega arith)

pub number_text-digits : (n : ℕ) → Each IsDigit (number_text n)
number_text-digits n = elim (zero_or_more n) [
  | inl none ↦ subst (λ k. Each IsDigit (number_text k)) (sym none) (subst (Each IsDigit) (sym number_text-zero) ((omega arith, omega arith), tt))
  | inr some ↦ let h = number_text-first n some in subst (Each IsDigit) (sym h.2) ((omega (arith, h.3), h.4), h.5)
]

-- ---- the number that digits write

-- the number that these digits write after those of n
abbrev pub value_after : ℕ → List ℕ → ℕ
value_after n [] = n
value_after n (d ∷ ds) = value_after (n * 10 + (d - 48)) ds

value_after-append : (n : ℕ) (xs ys : List ℕ) → value_after n (xs ++ ys) ≡ value_after (value_after n xs) ys
value_after-append n [] ys = refl
value_after-append n (x ∷ xs) ys = value_after-append (n * 10 + (x - 48)) xs ys

value_after-digits_in : (k n : ℕ) → n < k → value_after 0 (digits_in k n) ≡ n
value_after-digits_in zero n room = absurd (omega arith)
value_after-digits_in (suc k) n room = elim (cases_lt n 10) [
  | inl one ↦ ap (value_after 0) (digits_in-one k n one) ∙ digit_is n
  | inr more ↦
      ap (value_after 0) (digits_in-more k n more) ∙ value_after-append 0 (digits_in k (n / 10)) ((48 + n % 10) ∷ [])
      ∙ ap (λ m. value_after m ((48 + n % 10) ∷ [])) (value_after-digits_in k (n / 10) (omega arith)) ∙ last_is n
] where
  digit_is : (n : ℕ) → 0 * 10 + ((48 + n) - 48) ≡ n
  digit_is n = omega arith

  last_is : (n : ℕ) → (n / 10) * 10 + ((48 + n % 10) - 48) ≡ n
  last_is n = omega arith

pub value_after-number_text : (n : ℕ) → value_after 0 (number_text n) ≡ n
value_after-number_text n = value_after-digits_in (n + 1) n (omega arith)

-- a number is told by its text
pub number_text-injective : (m n : ℕ) → number_text m ≡ number_text n → m ≡ n
number_text-injective m n same = sym (value_after-number_text m) ∙ ap (value_after 0) same ∙ value_after-number_text n

-- digits after those of a number that isn't zero are those of a greater number
pub number_text-append : (n : ℕ) (ds : List ℕ) → 0 < n → Each IsDigit ds → number_text n ++ ds ≡ number_text (value_after n ds)
number_text-append n [] some all = append-nil (number_text n)
number_text-append n (d ∷ ds) some all =
    let low : 48 ≤ d = all.0.0 in
    let high : d ≤ 57 = all.0.1 in
    let same : 48 + (d - 48) ≡ d = omega arith in
    sym (append_assoc (number_text n) (d ∷ []) ds)
    ∙ ap (λ (w : ℕ). (number_text n ++ w ∷ []) ++ ds) (sym same)
    ∙ ap (λ (w : List ℕ). w ++ ds) (sym (number_text-more n (d - 48) some (omega arith)))
    ∙ number_text-append (n * 10 + (d - 48)) ds (omega arith) all.1

-- digits of which the first isn't zero are the text of a number
pub number_text-is : (d : ℕ) (ds : List ℕ) → 48 < d → d ≤ 57 → Each IsDigit ds → (n : ℕ) × (0 < n) × (number_text n ≡ d ∷ ds) × (n ≡ value_after (d - 48) ds)
number_text-is d ds low high all =
    let same : 48 + (d - 48) ≡ d = omega arith in
    let first : number_text (d - 48) ≡ d ∷ [] = number_text-one (d - 48) (omega arith) ∙ ap (λ (w : ℕ). w ∷ []) same in
    (value_after (d - 48) ds, value_after-some (d - 48) ds (omega arith), sym (number_text-append (d - 48) ds (omega arith) all) ∙ ap (λ (w : List ℕ). w ++ ds) first, refl) where
      value_after-some : (n : ℕ) (ds : List ℕ) → 0 < n → 0 < value_after n ds
      value_after-some n [] some = some
      value_after-some n (e ∷ es) some = value_after-some (n * 10 + (e - 48)) es (omega arith)
