-- Words: what stands before the first dash.
use Rattle.std.proofs.Common.{inl, inr, ◌≡◌, ℕ, suc, ◌+◌, ◌<◌, ◌^◌, Bool, true, false, leb, ◌&&◌, not, List, [], ◌∷◌, ◌++◌, length, refl, sym, ap, subst, ◌∙◌, arith, rules, true≢false}
use Rattle.std.specs.List.{prefix_len, list_all}
use Rattle.std.specs.Fmt.{decimal}
use Rattle.std.specs.Str.Parse.{digits_value}
use Rattle.std.proofs.lemmas.Str.Parse.{IsNumeralModel, numerals_by_value}
use Rattle.std.proofs.lemmas.Fmt.{digits_decimal}
use Rattle.std.proofs.lemmas.Bool.{eqb-true, cases_Bool, and_parts}
use Rattle.std.proofs.lemmas.Bool.Decides.{nat_tests}
use Rattle.std.proofs.lemmas.List.{take-append-drop, take_at, drop_at}
use Rattle.annex_base.specs.Lines.{dash}
use Rattle.annex_base.proofs.Lists.{list_all_weaker, prefix_len-stops}
use Rattle.annex_key.specs.KeyText.{is_backend, is_backend_byte, is_upper}
use Rattle.annex_key.specs.Reading.{begins, has_dashes, is_dash, word_of, after_word}

abbrev no_dash : ℕ → Bool
no_dash b = not (is_dash b)

pub word_and_rest : (bytes : List ℕ) → bytes ≡ word_of bytes ++ after_word bytes
word_and_rest bytes = sym (take-append-drop (prefix_len no_dash bytes) bytes)

word_again' : (front rest : List ℕ) → list_all no_dash front ≡ true → (word_of (front ++ dash ∷ rest) ≡ front) × (after_word (front ++ dash ∷ rest) ≡ dash ∷ rest)
word_again' front rest all =
    let n : prefix_len no_dash (front ++ dash ∷ rest) ≡ length front = prefix_len-stops no_dash front dash rest all refl in
    (rw n (take_at front (dash ∷ rest) (length front) refl), rw n (drop_at front (dash ∷ rest) (length front) refl))

-- a front without a dash is the word, where a dash follows
pub word_again : (front rest : List ℕ) → list_all no_dash front ≡ true → begins dash rest ≡ true → (word_of (front ++ rest) ≡ front) × (after_word (front ++ rest) ≡ rest)
word_again front [] all follows = absurd (true≢false (sym follows))
word_again front (b ∷ bs) all follows =
    subst (λ c. (word_of (front ++ c ∷ bs) ≡ front) × (after_word (front ++ c ∷ bs) ≡ c ∷ bs)) (sym (eqb-true b dash follows)) (word_again' front bs all)

abbrev is_digit : ℕ → Bool
is_digit b = leb 48 b && leb b 57

own : IsNumeralModel (λ ds. list_all is_digit ds ≡ true) (digits_value 10)
own = numerals_by_value _ (search rules)

digit_no_dash : (b : ℕ) → is_digit b ≡ true → no_dash b ≡ true
digit_no_dash b is = grind (arith, nat_tests)

pub decimal_no_dash : (n : ℕ) → n < 2 ^ 64 → list_all no_dash (decimal n) ≡ true
decimal_no_dash n small = list_all_weaker is_digit no_dash digit_no_dash (decimal n) (digits_decimal own n small)

backend_byte_no_dash : (b : ℕ) → is_backend_byte b ≡ true → no_dash b ≡ true
backend_byte_no_dash b is = grind (arith, nat_tests)

upper_is_backend_byte : (b : ℕ) → is_upper b ≡ true → is_backend_byte b ≡ true
upper_is_backend_byte b is = rw is refl

pub backend_no_dash : (backend : List ℕ) → is_backend backend ≡ true → list_all no_dash backend ≡ true
backend_no_dash [] is = absurd cc
backend_no_dash (b ∷ bs) is =
    let outer = and_parts (is_upper b && list_all is_backend_byte bs) (leb (length bs) 31) is in
    let inner = and_parts (is_upper b) (list_all is_backend_byte bs) outer.0 in
    rw (backend_byte_no_dash b (upper_is_backend_byte b inner.0), list_all_weaker is_backend_byte no_dash backend_byte_no_dash bs inner.1) refl

-- ---- two dashes are found in what is left

after_word-dash : (b : ℕ) (bs : List ℕ) → is_dash b ≡ true → after_word (b ∷ bs) ≡ b ∷ bs
after_word-dash b bs is = rw is refl

after_word-other : (b : ℕ) (bs : List ℕ) → is_dash b ≡ false → after_word (b ∷ bs) ≡ after_word bs
after_word-other b bs is = rw is (rw (one_more (prefix_len no_dash bs)) refl) where
  one_more : (n : ℕ) → 1 + n ≡ suc n
  one_more n = omega arith

has_dashes-other : (b : ℕ) (bs : List ℕ) → is_dash b ≡ false → has_dashes (b ∷ bs) ≡ has_dashes bs
has_dashes-other b bs is = rw is refl

pub has_dashes-after_word : (bytes : List ℕ) → has_dashes (after_word bytes) ≡ has_dashes bytes
has_dashes-after_word [] = refl
has_dashes-after_word (b ∷ bs) =
    elim (cases_Bool (is_dash b)) [
      | inl is ↦ ap has_dashes (after_word-dash b bs is)
      | inr other ↦ ap has_dashes (after_word-other b bs other) ∙ has_dashes-after_word bs ∙ sym (has_dashes-other b bs other)
    ]

pub dash_after_word : (bytes : List ℕ) → has_dashes bytes ≡ true → begins dash (after_word bytes) ≡ true
dash_after_word [] has = absurd (true≢false (sym has))
dash_after_word (b ∷ bs) has =
    elim (cases_Bool (is_dash b)) [
      | inl is ↦ ap (begins dash) (after_word-dash b bs is) ∙ is
      | inr other ↦ ap (begins dash) (after_word-other b bs other) ∙ dash_after_word bs (sym (has_dashes-other b bs other) ∙ has)
    ]

-- bytes at a dash, with two dashes at it or after it
pub record IsLive (bytes : List ℕ) : Type 0 where
  pub letter : ℕ
  pub more : List ℕ
  pub is : bytes ≡ dash ∷ letter ∷ more
  pub has : has_dashes bytes ≡ true

lone : (b : ℕ) → has_dashes (b ∷ []) ≡ true → ⊥
lone b has = elim (cases_Bool (is_dash b)) [ inl is ↦ true≢false (sym (rw is at has)) | inr other ↦ true≢false (sym (rw other at has)) ]

live : (bytes : List ℕ) → has_dashes bytes ≡ true → begins dash bytes ≡ true → IsLive bytes
live [] has starts = absurd (true≢false (sym has))
live (b ∷ []) has starts = absurd (lone b has)
live (b ∷ letter ∷ more) has starts = record { letter = letter; more = more; is = ap (λ c. c ∷ letter ∷ more) (eqb-true b dash starts); has = has }

pub live_after_word : (bytes : List ℕ) → has_dashes bytes ≡ true → IsLive (after_word bytes)
live_after_word bytes has = live (after_word bytes) (has_dashes-after_word bytes ∙ has) (dash_after_word bytes has)

-- a letter that is no dash is passed
pub has_dashes-letter : (letter : ℕ) (more : List ℕ) → is_dash letter ≡ false → has_dashes (dash ∷ letter ∷ more) ≡ has_dashes more
has_dashes-letter letter more other = rw other refl
