-- A decimal word has one number, and a number below 2 ^ 64 one word.
use Rattle.std.proofs.Common.{◌≡◌, ℕ, ◌<◌, ◌≤◌, ◌^◌, ◌⊎◌, inl, inr, ltb, ◌&&◌, List, length, get_or, drop, Some, None, Result, Ok, Err, arith, refl, sym, ap, subst, ◌∙◌}
use Rattle.std.specs.Fmt.{decimal}
use Rattle.std.specs.Str.{bytes_eq, IsUtf8}
use Rattle.std.specs.Str.Parse.{digits_value, AllDigits, IsNumeral, ParsesUnsigned, without_leading_plus}
use Rattle.std.proofs.Math.Nat.{eq-zero-or-pos}
use Rattle.std.proofs.lemmas.Bool.Decides.{eqb_tells}
use Rattle.std.proofs.lemmas.Bool.{and_parts, ltb-true, lt-ltb}
use Rattle.std.proofs.lemmas.Option.{cond_some}
use Rattle.std.proofs.lemmas.List.{length-drop}
use Rattle.std.proofs.lemmas.Str.{IsUtf8-from_ascii}
use Rattle.std.proofs.lemmas.Str.Parse.{IsNumeralModel, numerals_by_value, tells_digits, without_leading_plus_none, without_leading_plus_plus}
use Rattle.std.proofs.lemmas.Slice.Eq.{bytes_eq-Decides}
use Rattle.std.proofs.lemmas.Fmt.{digits_value-decimal, parse-decimal, decimal-digits_value, first_decimal, IsAscii-decimal, decimal_digit}
use Rattle.std.specs.Result.{result_ok}
use Rattle.annex_base.specs.Decimal.{number_of}
use Rattle.annex_base.proofs.Options.{none_by}

pub numerals : IsNumeralModel (AllDigits 10) (digits_value 10)
numerals = numerals_by_value (AllDigits 10) tells_digits

pub number_is : (n : ℕ) → n < 2 ^ 64 → number_of (decimal n) ≡ Some n
unfolding number_of
number_is n small =
    let back : digits_value 10 (decimal n) ≡ n = digits_value-decimal numerals n small in
    rw (back, lt-ltb n (2 ^ 64) small, (bytes_eq-Decides (decimal n) (decimal n)).1 refl) refl

pub number_some : (word : List ℕ) (n : ℕ) → number_of word ≡ Some n → (word ≡ decimal n) × (n < 2 ^ 64)
unfolding number_of
number_some word n e =
    let v = digits_value 10 word in
    let h = cond_some (ltb v (2 ^ 64) && bytes_eq (decimal v) word) v n e in
    let tests = and_parts (ltb v (2 ^ 64)) (bytes_eq (decimal v) word) h.0 in
    (sym ((bytes_eq-Decides (decimal v) word).0 tests.1) ∙ ap decimal h.1, subst (λ k. k < 2 ^ 64) h.1 (ltb-true v (2 ^ 64) tests.0))

ok_or_err : {E : Type 0} (n : ℕ) (e : E) → Err e ≡ Ok n → ⊥
ok_or_err n e h = cc

-- a word that no number has
pub number_none : (word : List ℕ) → ((n : ℕ) → n < 2 ^ 64 → word ≡ decimal n → ⊥) → number_of word ≡ None
number_none word h = none_by (number_of word) (λ n e. let is = number_some word n e in h n is.1 is.0)

-- what isn't text has no number
pub number_of-text : (word : List ℕ) → (IsUtf8 word → ⊥) → number_of word ≡ None
number_of-text word h = number_none word (λ n small e. h (subst IsUtf8 (sym e) (IsUtf8-from_ascii (decimal n) (IsAscii-decimal n small))))

decimal_first : (n : ℕ) → n < 2 ^ 64 → 1 < length (decimal n) → get_or (decimal n) 0 0 ≤ 48 → ⊥
decimal_first n small long low =
    elim (eq-zero-or-pos n) [
      | inl none ↦ omega (arith, subst (λ m. 1 < length (decimal m)) none long, ap length (decimal_digit 0 (omega arith)))
      | inr some ↦ omega (arith, first_decimal n some small)
    ]

-- nor has one of two bytes or more that begins with a zero or a sign
pub number_of-sign : (word : List ℕ) → 1 < length word → get_or word 0 0 ≤ 48 → number_of word ≡ None
number_of-sign word long low = number_none word (λ n small e. decimal_first n small (subst (λ w. 1 < length w) e long) (subst (λ w. get_or w 0 0 ≤ 48) e low))

-- a numeral with no zero or sign in front is the decimal text of its value
spelled : (word : List ℕ) → ((length word ≤ 1) ⊎ (48 < get_or word 0 0)) → IsNumeral 10 word → digits_value 10 word < 2 ^ 64 → word ≡ decimal (digits_value 10 word)
spelled word front is small =
    sym (decimal-digits_value numerals word is.1 is.0 (λ zero. elim front [ inl short ↦ omega (arith, short, is.0) | inr high ↦ absurd (omega (arith, high, zero)) ]) small)

lone_sign : (word : List ℕ) → ((length word ≤ 1) ⊎ (48 < get_or word 0 0)) → get_or word 0 0 ≡ 43 → IsNumeral 10 (drop 1 word) → ⊥
lone_sign word front plus is =
    elim front [ inl short ↦ omega (arith, short, is.0, length-drop 1 word) | inr high ↦ omega (arith, high, plus) ]

no_sign : (word : List ℕ) → ((length word ≤ 1) ⊎ (48 < get_or word 0 0)) → IsNumeral 10 (without_leading_plus word) → without_leading_plus word ≡ word
no_sign word front is =
    elim (eqb_tells (get_or word 0 0) 43) [
      | inl plus ↦ absurd (lone_sign word front plus.1 (subst (λ w. IsNumeral 10 w) (without_leading_plus_plus word plus.1) is))
      | inr other ↦ without_leading_plus_none word other.1
    ]

-- what std's parse answers is the number
pub number_of-parsed : {E : Type 0} (word : List ℕ) (r : Result ℕ E) → ParsesUnsigned 64 10 word r → ((length word ≤ 1) ⊎ (48 < get_or word 0 0)) → result_ok r ≡ number_of word
number_of-parsed word (Ok n) h front =
    let same = no_sign word front h.0.0 in
    let is : IsNumeral 10 word = subst (λ w. IsNumeral 10 w) same h.0.0 in
    let value : n ≡ digits_value 10 word = h.1 ∙ ap (digits_value 10) same in
    let small : digits_value 10 word < 2 ^ 64 = subst (λ w. digits_value 10 w < 2 ^ 64) same h.0.1 in
    ap Some value ∙ sym (number_is (digits_value 10 word) small) ∙ ap number_of (sym (spelled word front is small))
number_of-parsed word (Err e) h front =
    sym (number_none word (λ n small is. absurd (ok_or_err n e (parse-decimal 64 n word (Err e) small small is h))))
