-- The order of numbers, ranges of them, and the bytes of numbers, stamps and identifiers as texts.
use Rattle.std.proofs.Common.{◌≡◌, ◌⊎◌, inl, inr, ℕ, zero, suc, ◌+◌, ◌<◌, ◌≤◌, ◌^◌, ◌/◌, ◌%◌, Bool, true, false, ◌==◌, List, [], ◌∷◌, ◌++◌, length, refl, sym, ap, ◌∙◌, add-zero, arith, lit<, mod-lt, true≢false}
use Rattle.std.specs.Prelude.{if◌then◌else◌, codes}
use Rattle.std.specs.Char.{is_ascii_digit}
use Rattle.std.specs.List.{list_all, range_with_len}
use Rattle.std.specs.Fmt.{decimal, digits, digits_onto, digit_glyph}
use Rattle.std.specs.declared.cmp.Ordering.{Ordering}
use Rattle.std.specs.declared.cmp.Ordering.TheVariants.{Less, Equal, Greater}
use Rattle.std.specs.Ordering.{is_lt, nat_cmp}
use Rattle.std.proofs.lemmas.Fmt.{length-decimal-le}
use Rattle.std.proofs.lemmas.Bool.{and_from}
use Rattle.std.proofs.lemmas.Bool.Decides.{nat_tests}
use Rattle.std.proofs.lemmas.List.Sums.{list_all-from_AllPass}
use Rattle.annex_base.specs.Lists.{Each, Member}
use Rattle.annex_base.specs.StampText.{digits_after_point, fraction_text, stamp_text}
use Rattle.annex_base.proofs.Lists.{list_all_append, list_all_weaker}
use Rattle.annex_base.proofs.StampLemmas.{places_digits}

-- ---- their order

pub not_both : (n a : ℕ) → n < a → a ≤ n → ⊥
not_both n a less least = omega (arith, less, least)

pub below_more : (n a b : ℕ) → n < a → a ≤ b → n < b
below_more n a b less least = omega (arith, less, least)

pub nat_cmp_less : (a b : ℕ) → a < b → nat_cmp a b ≡ Less
nat_cmp_less a b less = grind arith

pub less_by_nat_cmp : (a b : ℕ) → nat_cmp a b ≡ Less → a < b
less_by_nat_cmp a b is = grind arith

pub is_lt_true : (o : Ordering) → is_lt o ≡ true → o ≡ Less
is_lt_true Less e = refl
is_lt_true Equal e = absurd (true≢false (sym e))
is_lt_true Greater e = absurd (true≢false (sym e))

-- ---- ranges

pub range_below : (a n b : ℕ) → a + n ≡ b → Each (λ x. x < b) (range_with_len a n)
range_below a zero b e = tt
range_below a (suc n) b e = (omega (arith, e), range_below (a + 1) n b (omega (arith, e)))

pub range_suc : (a n : ℕ) → range_with_len a (suc n) ≡ range_with_len a n ++ (a + n) ∷ []
range_suc a zero = ap (λ k. k ∷ []) (sym (add-zero a))
range_suc a (suc n) = let last : (a + 1) + n ≡ a + suc n = omega arith in ap (λ xs. a ∷ xs) (range_suc (a + 1) n ∙ ap (λ k. range_with_len (a + 1) n ++ k ∷ []) last)

pub range_more : (n : ℕ) → range_with_len 0 (n + 1) ≡ range_with_len 0 n ++ n ∷ []
range_more n =
    let count : n + 1 ≡ suc n = omega arith in
    let place : 0 + n ≡ n = omega arith in
    rw count (rw place at (range_suc 0 n))

pub range_above : (a b n : ℕ) → a < b → Each (λ y. a < y) (range_with_len b n)
range_above a b zero less = tt
range_above a b (suc n) less = (less, range_above a (b + 1) n (omega (arith, less)))

pub Member-range : (a n k : ℕ) → a ≤ k → k < a + n → Member k (range_with_len a n)
Member-range a zero k from below = absurd (omega (arith, from, below))
Member-range a (suc n) k from below = go (λ more end. Member-range (a + 1) n k more end) (k == a) refl
  where
    go : (a + 1 ≤ k → k < a + 1 + n → Member k (range_with_len (a + 1) n)) → (b : Bool) → (k == a) ≡ b → Member k (a ∷ range_with_len (a + 1) n)
    go rest true same = inl (grind (arith, nat_tests))
    go rest false differs = inr (rest (grind (arith, nat_tests)) (omega (arith, below)))

-- ---- what holds of every digit holds of the bytes of a number's text

-- the test passes each digit
abbrev pub PassesDigits : (ℕ → Bool) → Type 0
PassesDigits p = (d : ℕ) → is_ascii_digit d ≡ true → p d ≡ true

glyph_is : (d : ℕ) → d < 10 → is_ascii_digit (digit_glyph false d) ≡ true
glyph_is d small = grind (arith, nat_tests)

onto_all : (p : ℕ → Bool) → PassesDigits p → (fuel n : ℕ) (rest : List ℕ) → list_all p rest ≡ true → list_all p (digits_onto fuel 10 false n rest) ≡ true
onto_all p digit zero n rest h = h
onto_all p digit (suc fuel) n rest h = go (n / 10 == 0) (onto_all p digit fuel (n / 10) (digit_glyph false (n % 10) ∷ rest) more)
  where
    more : list_all p (digit_glyph false (n % 10) ∷ rest) ≡ true
    more = let small : n % 10 < 10 = omega arith in and_from (p (digit_glyph false (n % 10))) (list_all p rest) (digit (digit_glyph false (n % 10)) (glyph_is (n % 10) small)) h

    go : (b : Bool) → list_all p (digits_onto fuel 10 false (n / 10) (digit_glyph false (n % 10) ∷ rest)) ≡ true
        → list_all p (if b then digit_glyph false (n % 10) ∷ rest else digits_onto fuel 10 false (n / 10) (digit_glyph false (n % 10) ∷ rest)) ≡ true
    go true k = more
    go false k = k

pub decimal-all : (p : ℕ → Bool) → PassesDigits p → (n : ℕ) → list_all p (decimal n) ≡ true
unfolding digits
decimal-all p digit n = onto_all p digit 64 n [] refl

-- a number below 2 ^ 63 has at most 19 digits
pub decimal_short : (n : ℕ) → n < 2 ^ 63 → length (decimal n) ≤ 19
decimal_short n small = length-decimal-le 19 n (omega arith) (omega arith) (omega arith)

-- ---- the same of a stamp's text, with the point and the unit

places_all : (p : ℕ → Bool) → PassesDigits p → (k n : ℕ) → n < 10 ^ k → list_all p (digits_after_point k n) ≡ true
places_all p digit k n small = list_all_weaker is_ascii_digit p digit (digits_after_point k n) (list_all-from_AllPass is_ascii_digit (digits_after_point k n) (places_digits k n small))

pub fraction_all : (p : ℕ → Bool) → p 46 ≡ true → (ds : List ℕ) → list_all p ds ≡ true → list_all p (fraction_text ds) ≡ true
fraction_all p point [] h = refl
fraction_all p point (d ∷ ds) h = and_from (p 46) (list_all p (d ∷ ds)) point h

pub stamp_text-all : (p : ℕ → Bool) → PassesDigits p → p 46 ≡ true → p 115 ≡ true → (n : ℕ) → list_all p (stamp_text n) ≡ true
stamp_text-all p digit point unit n =
    let small : n % 10 ^ 9 < 10 ^ 9 = mod-lt n (lit< tt) in
    let ds = digits_after_point 9 (n % 10 ^ 9) in
    let seconds = decimal (n / 10 ^ 9) in
    list_all_append p (seconds ++ fraction_text ds) (codes "s")
    (list_all_append p seconds (fraction_text ds) (decimal-all p digit (n / 10 ^ 9)) (fraction_all p point ds (places_all p digit 9 (n % 10 ^ 9) small)))
    (and_from (p 115) true unit refl)
