-- Digits and numbers, and texts cut before an end.
use Rattle.std.proofs.Common.{◌≡◌, ℕ, zero, suc, ◌+◌, ◌-◌, ◌<◌, ◌≤◌, ◌^◌, true, false, List, [], ◌∷◌, ◌++◌, length, get_or, take, drop, Option, Some, None, Result, Ok, Err, MatchOption, refl, sym, ap, subst, ◌∙◌, arith, length-append, true≢false, append-nil}
use Rattle.std.specs.Prelude.{codes, bytes_eq}
use Rattle.std.specs.Char.{is_ascii_digit}
use Rattle.std.specs.List.{list_all}
use Rattle.std.specs.Result.{result_ok, OkIff}
use Rattle.std.specs.Str.{IsUtf8}
use Rattle.std.specs.Str.Parse.{digits_value, IsNumeral, ParsesUnsigned, without_leading_plus}
use Rattle.std.proofs.lemmas.Bool.Decides.{nat_tests}
use Rattle.std.proofs.lemmas.Bool.{and_parts, eqb-false}
use Rattle.std.proofs.lemmas.List.{append_cancel_right, take-append-drop}
use Rattle.std.proofs.lemmas.Str.{IsUtf8-from_ascii}
use Rattle.std.proofs.lemmas.Str.Parse.{without_leading_plus_none, digits_value_short}
use Rattle.std.proofs.lemmas.List.Prefix.{end_rest}
use Rattle.annex_base.proofs.Conditions.{bytes_eq-refl, bytes_eq-true}
use Rattle.annex_base.proofs.Lists.{list_all_parts, cons_first, cons_rest}
use Rattle.annex_base.specs.Finding.{Found}
use Rattle.annex_base.proofs.StampLemmas.{ascii_numerals}
use Rattle.wanted_expr.specs.Finding.{Ends}
use Rattle.wanted_expr.specs.Words.{IsDigits, IsCount, SizeUnit, Bytes, Kilobytes, Megabytes, Gigabytes, unit_text}

pub digit_bounds : (b : ℕ) → is_ascii_digit b ≡ true → (48 ≤ b) × (b ≤ 57)
digit_bounds b e = grind (arith, nat_tests)

digits_ascii : (w : List ℕ) → list_all is_ascii_digit w ≡ true → (i : ℕ) → get_or w i 0 < 128
digits_ascii [] e i = omega arith
digits_ascii (c ∷ cs) e zero = let k = and_parts (is_ascii_digit c) (list_all is_ascii_digit cs) e in omega (arith, (digit_bounds c k.0).1)
digits_ascii (c ∷ cs) e (suc i) = let k = and_parts (is_ascii_digit c) (list_all is_ascii_digit cs) e in digits_ascii cs k.1 i

pub digits_utf8 : (w : List ℕ) → list_all is_ascii_digit w ≡ true → IsUtf8 w
digits_utf8 w e = IsUtf8-from_ascii w (digits_ascii w e)

no_plus : (w : List ℕ) → list_all is_ascii_digit w ≡ true → without_leading_plus w ≡ w
no_plus [] e = refl
no_plus (c ∷ cs) e =
    let k = and_parts (is_ascii_digit c) (list_all is_ascii_digit cs) e in
    let low : 48 ≤ c = (digit_bounds c k.0).0 in
    without_leading_plus_none (c ∷ cs) (λ plus. let is : c ≡ 43 = plus in omega (arith, is, low))

-- the number of some digits, below 2 ^ 64
abbrev pub IsNumber : List ℕ → ℕ → Type 0
IsNumber w n = IsDigits w × (n ≡ digits_value 10 w) × (n < 2 ^ 64)

parsed : {E : Type 0} (w : List ℕ) (r : Result ℕ E) → OkIff r (IsNumeral 10 w × (digits_value 10 w < 2 ^ 64)) (digits_value 10 w) → IsDigits w → Found (λ x. x) (IsNumber w) (result_ok r)
parsed w (Ok n) h d = (d, h.1, omega (arith, h.1, h.0.1))
parsed w (Err e) h d = λ n k. h ((d.some, ascii_numerals.to w d.digits), omega (arith, k.1, k.2))

pub parsed_number : {E : Type 0} (w : List ℕ) (r : Result ℕ E) → ParsesUnsigned 64 10 w r → IsDigits w → Found (λ x. x) (IsNumber w) (result_ok r)
parsed_number w r h d = parsed w r (subst (λ (v : List ℕ). OkIff r (IsNumeral 10 v × (digits_value 10 v < 2 ^ 64)) (digits_value 10 v)) (no_plus w d.digits) h) d

pub count_small : (w : List ℕ) (n : ℕ) → IsCount w n → n < 1000000000
count_small w n k = omega (arith, k.value, digits_value_short ascii_numerals w 9 k.digits.digits k.short)

pub no_count : (w : List ℕ) → ((n : ℕ) → IsNumber w n → ⊥) → (n : ℕ) → IsCount w n → ⊥
no_count w h n k = h n (k.digits, k.value, omega (arith, count_small w n k))

pub fits_count : {E : Type 0} (w : List ℕ) (n : ℕ) (r : Result ℕ E) → OkIff r (n < 2 ^ 32) n → IsNumber w n → length w ≤ 9 → Found (λ x. x) (IsCount w) (result_ok r)
fits_count w n (Ok m) h k short = record { digits = k.0; short = short; value = h.1 ∙ k.1 }
fits_count w n (Err e) h k short = λ m j. h (omega (arith, k.1, digits_value_short ascii_numerals w 9 k.0.digits short))

-- Texts cut before an end.

pub stripped : {X : Type 0} (now : X → List ℕ) (text end : List ℕ) (o : Option X) → MatchOption o (bytes_eq (drop (length text - length end) text) end ≡ false) (λ x. (bytes_eq (drop (length text - length end) text) end ≡ true) × (now x ≡ take (length text - length end) text) × (length (now x) + length end ≡ length text)) → MatchOption o ((front : List ℕ) → text ≡ front ++ end → ⊥) (λ x. text ≡ now x ++ end)
stripped now text end None h = λ front e. true≢false (sym (ap (λ (w : List ℕ). bytes_eq w end) (end_rest text end front e) ∙ bytes_eq-refl end) ∙ h)
stripped now text end (Some x) h =
    let n = length text - length end in
    sym (take-append-drop n text) ∙ (ap (λ (w : List ℕ). w ++ drop n text) (sym h.1) ∙ ap (λ (w : List ℕ). now x ++ w) (bytes_eq-true (drop n text) end h.0))

-- Units of sizes.

pub before_last : (xs ys : List ℕ) (a b c d : ℕ) → xs ++ a ∷ b ∷ [] ≡ ys ++ c ∷ d ∷ [] → a ≡ c
before_last [] [] a b c d e = cons_first a c (b ∷ []) (d ∷ []) e
before_last [] (y ∷ ys) a b c d e = absurd (omega (arith, ap length e, length-append ys (c ∷ d ∷ [])))
before_last (x ∷ xs) [] a b c d e = absurd (omega (arith, ap length e, length-append xs (a ∷ b ∷ [])))
before_last (x ∷ xs) (y ∷ ys) a b c d e = before_last xs ys a b c d (cons_rest x y (xs ++ a ∷ b ∷ []) (ys ++ c ∷ d ∷ []) e)

pub not_digits : (digits front : List ℕ) (a b : ℕ) → IsDigits digits → is_ascii_digit a ≡ false → front ++ a ∷ b ∷ [] ≡ digits ++ [] → ⊥
not_digits digits front a b is differs e =
    let all : list_all is_ascii_digit (front ++ a ∷ b ∷ []) ≡ true = subst (λ (w : List ℕ). list_all is_ascii_digit w ≡ true) (sym (e ∙ append-nil digits)) is.digits in
    let k = list_all_parts is_ascii_digit front (a ∷ b ∷ []) all in
    let j = and_parts (is_ascii_digit a) (list_all is_ascii_digit (b ∷ [])) k.1 in
    true≢false (sym j.0 ∙ differs)

pub ends_kb : (value number : List ℕ) → value ≡ number ++ codes "kb" → Ends value number 1000
ends_kb value number e = record { unit = Kilobytes; spelled = e; sized = refl; only = only }
  where
    only : (digits : List ℕ) (other : SizeUnit) → IsDigits digits → value ≡ digits ++ unit_text other → (digits ≡ number) × (other ≡ Kilobytes)
    only digits Bytes is s = absurd (not_digits digits number 107 98 is refl (sym e ∙ s))
    only digits Kilobytes is s = (append_cancel_right digits number (codes "kb") (sym s ∙ e), refl)
    only digits Megabytes is s = absurd (eqb-false 107 109 refl (before_last number digits 107 98 109 98 (sym e ∙ s)))
    only digits Gigabytes is s = absurd (eqb-false 107 103 refl (before_last number digits 107 98 103 98 (sym e ∙ s)))

pub ends_mb : (value number : List ℕ) → value ≡ number ++ codes "mb" → Ends value number 1000000
ends_mb value number e = record { unit = Megabytes; spelled = e; sized = refl; only = only }
  where
    only : (digits : List ℕ) (other : SizeUnit) → IsDigits digits → value ≡ digits ++ unit_text other → (digits ≡ number) × (other ≡ Megabytes)
    only digits Bytes is s = absurd (not_digits digits number 109 98 is refl (sym e ∙ s))
    only digits Kilobytes is s = absurd (eqb-false 109 107 refl (before_last number digits 109 98 107 98 (sym e ∙ s)))
    only digits Megabytes is s = (append_cancel_right digits number (codes "mb") (sym s ∙ e), refl)
    only digits Gigabytes is s = absurd (eqb-false 109 103 refl (before_last number digits 109 98 103 98 (sym e ∙ s)))

pub ends_gb : (value number : List ℕ) → value ≡ number ++ codes "gb" → Ends value number 1000000000
ends_gb value number e = record { unit = Gigabytes; spelled = e; sized = refl; only = only }
  where
    only : (digits : List ℕ) (other : SizeUnit) → IsDigits digits → value ≡ digits ++ unit_text other → (digits ≡ number) × (other ≡ Gigabytes)
    only digits Bytes is s = absurd (not_digits digits number 103 98 is refl (sym e ∙ s))
    only digits Kilobytes is s = absurd (eqb-false 103 107 refl (before_last number digits 103 98 107 98 (sym e ∙ s)))
    only digits Megabytes is s = absurd (eqb-false 103 109 refl (before_last number digits 103 98 109 98 (sym e ∙ s)))
    only digits Gigabytes is s = (append_cancel_right digits number (codes "gb") (sym s ∙ e), refl)

pub kb_only : (value number : List ℕ) → value ≡ number ++ codes "kb" → (digits : List ℕ) (other : SizeUnit) → IsDigits digits → value ≡ digits ++ unit_text other → (digits ≡ number) × (other ≡ Kilobytes)
unfolding ends_kb
kb_only value number e = (ends_kb value number e).only

pub mb_only : (value number : List ℕ) → value ≡ number ++ codes "mb" → (digits : List ℕ) (other : SizeUnit) → IsDigits digits → value ≡ digits ++ unit_text other → (digits ≡ number) × (other ≡ Megabytes)
unfolding ends_mb
mb_only value number e = (ends_mb value number e).only

pub gb_only : (value number : List ℕ) → value ≡ number ++ codes "gb" → (digits : List ℕ) (other : SizeUnit) → IsDigits digits → value ≡ digits ++ unit_text other → (digits ≡ number) × (other ≡ Gigabytes)
unfolding ends_gb
gb_only value number e = (ends_gb value number e).only
