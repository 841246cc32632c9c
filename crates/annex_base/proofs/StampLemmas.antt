-- A stamp's text: what digits write, what is read from left to right, and what is written.
use Rattle.std.proofs.Common.{◌≡◌, ◌⊎◌, inl, inr, ℕ, zero, suc, ◌+◌, ◌-◌, ◌*◌, ◌/◌, ◌%◌, ◌^◌, ◌<◌, ◌≤◌, Bool, true, false, ◌&&◌, ◌==◌, nat_lt, nat_le, if◌then◌else◌, true≢false, List, [], ◌∷◌, ◌++◌, length, take, drop, get_or, codes, Some, refl, sym, ap, subst, ◌∙◌, append_assoc, rules, lit<, lit≤, sub-one, arith}
use Rattle.std.specs.Char.{is_ascii_digit, digit_value}
use Rattle.std.specs.List.{AllPass, prefix_len, list_all}
use Rattle.std.specs.Fmt.{decimal}
use Rattle.std.specs.Str.Parse.{AllDigits, digits_value, digits_value_after}
use Rattle.std.proofs.Math.Nat.{pow-le-pow_right, one-le-pow, mul-le-mul_right, pow-succ', div-lt_iff_lt-mul, mod-lt, div-add-mod, eq-zero-or-pos}
use Rattle.std.proofs.lemmas.Nat.{pow-add}
use Rattle.std.proofs.lemmas.Bool.{and_parts, ltb-true, lt-ltb, leb-true, le-leb, eqb-true}
use Rattle.std.proofs.lemmas.Option.{cond_some, same_Some}
use Rattle.std.proofs.lemmas.Bool.Decides.{nat_tests}
use Rattle.std.proofs.lemmas.Int.Digits.{digits_value-lt, digits_value_more}
use Rattle.std.proofs.lemmas.Str.Parse.{IsNumeralModel, numerals_by_value, digits_value-take-le}
use Rattle.std.proofs.lemmas.Fmt.{digits_decimal, digits_value-decimal, decimal_nonempty, length-decimal-le}
use Rattle.std.proofs.lemmas.List.{get_or-take, take_all, take-append-drop, take_at, drop_at}
use Rattle.std.proofs.lemmas.List.Sums.{prefix_len_passes, prefix_len_is, list_all-from_AllPass, AllPass-from_list_all}
use Rattle.std.proofs.lemmas.List.Folds.{length-prefix_len, prefix_len-append}
use Rattle.annex_base.specs.StampText.{IsStamp, fraction_text, nanos_of, digits_after_point, stamp_text}
use Rattle.annex_base.specs.StampReading.{digits_at, fraction_at, is_ending, stamp_of}
use Rattle.annex_base.proofs.Options.{bind_some}
use Rattle.annex_base.proofs.Conditions.{if_is}

digit_below : (c : ℕ) → is_ascii_digit c ≡ true → digit_value c < 10
digit_below c is = grind (arith, nat_tests)

digit_is : (c : ℕ) → is_ascii_digit c ≡ true → digit_value c ≡ c - 48
digit_is c is = grind (arith, nat_tests)

all_digits : (ds : List ℕ) → list_all is_ascii_digit ds ≡ true → AllDigits 10 ds
all_digits [] is = tt
all_digits (c ∷ ds) is =
    let both = and_parts (is_ascii_digit c) (list_all is_ascii_digit ds) is in (digit_below c both.0, all_digits ds both.1)

-- digits write a number below the power of their count
pub digits_below : (ds : List ℕ) → AllPass is_ascii_digit ds → digits_value 10 ds < 10 ^ length ds
digits_below ds all = digits_value-lt 10 ds (all_digits ds (list_all-from_AllPass is_ascii_digit ds all))

-- so do the first of them, and ten at most write a number below 10 ^ 10
pub ten_digits_below : (ds : List ℕ) (i : ℕ) → AllPass is_ascii_digit ds → length ds ≤ 10 → digits_value 10 (take i ds) < 10 ^ 10
ten_digits_below ds i all short =
    omega (arith, digits_value-take-le 10 ds i (lit≤ tt), digits_below ds all, pow-le-pow_right {n = 10} (lit< tt) {i = length ds} {j = 10} short)

-- one digit more
pub one_digit_more : (ds : List ℕ) (i : ℕ) → AllPass is_ascii_digit ds → i < length ds
    → digits_value 10 (take i ds) * 10 + (get_or ds i 0 - 48) ≡ digits_value 10 (take (i + 1) ds)
one_digit_more ds i all within =
    omega (arith, digits_value_more 10 ds i within, digit_is (get_or ds i 0) (all i 0 within))

-- the front that is counted consists of digits
pub front_digits : (bytes : List ℕ) → AllPass is_ascii_digit (take (prefix_len is_ascii_digit bytes) bytes)
front_digits bytes k d within =
    let counted : k < prefix_len is_ascii_digit bytes = omega (arith, within, length-prefix_len is_ascii_digit bytes) in
    rw (get_or-take (prefix_len is_ascii_digit bytes) bytes k d counted) (prefix_len_passes is_ascii_digit bytes k d counted)

-- a number of k digits as a fraction of n places
pub scaled_below : (value k n : ℕ) → k ≤ n → value < 10 ^ k → value * 10 ^ (n - k) < 10 ^ n
scaled_below value k n short below =
    let whole : 10 ^ k * 10 ^ (n - k) ≡ 10 ^ n = sym (pow-add 10 k (n - k)) ∙ ap (λ (m : ℕ). 10 ^ m) (omega arith) in
    let some : 0 < 10 ^ (n - k) = one-le-pow (n - k) 10 (lit< tt) in
    omega (arith, whole, some, mul-le-mul_right (10 ^ (n - k)) below)

-- ---- what is read is a stamp's text

-- some digits, at most so many, and then the rest
record Splits (most : ℕ) (bytes digits rest : List ℕ) : Type 0 where
  spelled : bytes ≡ digits ++ rest
  some : 0 < length digits
  short : length digits ≤ most
  all : AllPass is_ascii_digit digits

digits_take : (most : ℕ) (bytes : List ℕ) (x : List ℕ × List ℕ) → digits_at most bytes ≡ Some x → Splits most bytes x.0 x.1
unfolding digits_at
digits_take most bytes x e =
    let n = prefix_len is_ascii_digit bytes in
    let h = cond_some (nat_lt 0 n && nat_le n most) (take n bytes, drop n bytes) x e in
    let tests = and_parts (nat_lt 0 n) (nat_le n most) h.0 in
    let counted = length-prefix_len is_ascii_digit bytes in
    subst (λ (y : List ℕ × List ℕ). Splits most bytes y.0 y.1) h.1 (record {
      spelled = sym (take-append-drop n bytes);
      some = omega (arith, counted, ltb-true 0 n tests.0);
      short = omega (arith, counted, leb-true n most tests.1);
      all = front_digits bytes;
    })

record SplitsFraction (bytes digits rest : List ℕ) : Type 0 where
  spelled : bytes ≡ fraction_text digits ++ rest
  short : length digits ≤ 12
  all : AllPass is_ascii_digit digits

none_pass : AllPass is_ascii_digit []
none_pass k d within = absurd (omega arith)

after_point : (b : ℕ) (bytes digits rest : List ℕ) → b ≡ 46 → Splits 12 bytes digits rest → SplitsFraction (b ∷ bytes) digits rest
after_point b bytes [] rest point is = absurd (omega (arith, is.some))
after_point b bytes (d ∷ ds) rest point is = record {
  spelled = rw (point, is.spelled) refl;
  short = is.short;
  all = is.all;
}

no_fraction : (bytes : List ℕ) (x : List ℕ × List ℕ) → Some ([], bytes) ≡ Some x → SplitsFraction bytes x.0 x.1
no_fraction bytes x e =
    subst (λ (y : List ℕ × List ℕ). SplitsFraction bytes y.0 y.1) (same_Some ([], bytes) x e)
    (record { spelled = refl; short = omega arith; all = none_pass })

fraction_takes : (bytes : List ℕ) (x : List ℕ × List ℕ) → fraction_at bytes ≡ Some x → SplitsFraction bytes x.0 x.1
unfolding fraction_at
fraction_takes [] x e = no_fraction [] x e
fraction_takes (b ∷ bytes) x e =
    elim (if_is (b == 46) (digits_at 12 bytes) (Some ([], b ∷ bytes)) (Some x) e) [
      | inl point ↦ after_point b bytes x.0 x.1 (eqb-true b 46 point.0) (digits_take 12 bytes x point.1)
      | inr other ↦ no_fraction (b ∷ bytes) x other.1
    ]

ending_takes : (bytes : List ℕ) → is_ending bytes ≡ true → (bytes ≡ []) ⊎ (bytes ≡ codes "s")
ending_takes [] e = inl refl
ending_takes (b ∷ []) e = inr (rw (eqb-true b 115 e) refl)
ending_takes (b ∷ c ∷ bytes) e = absurd (true≢false (sym e))

-- what is read is in the grammar, with that number
pub stamp_takes : (text : List ℕ) (n : ℕ) → stamp_of text ≡ Some n → IsStamp text n
unfolding stamp_of
stamp_takes text n e =
    let s = bind_some (digits_at 10 text) _ n e in
    let f = bind_some (fraction_at s.0.1) _ n s.2 in
    let v = cond_some (is_ending f.0.1) (digits_value 10 s.0.0 * 10 ^ 9 + nanos_of f.0.0) n f.2 in
    let seconds = digits_take 10 text s.0 s.1 in
    let fraction = fraction_takes s.0.1 f.0 f.1 in
    record {
      seconds = s.0.0;
      fraction = f.0.0;
      ending = f.0.1;
      spelled = seconds.spelled ∙ ap (λ (l : List ℕ). s.0.0 ++ l) fraction.spelled;
      some = seconds.some;
      short = seconds.short;
      digits = seconds.all;
      short_fraction = fraction.short;
      fraction_digits = fraction.all;
      unit = ending_takes f.0.1 v.0;
      value = sym v.1;
    }

-- ---- and each stamp's text is read

either_way : (b : Bool) (n : ℕ) → (if b then n + 0 else n) ≡ n
either_way true n = omega arith
either_way false n = refl

digits_again : (most : ℕ) (digits rest : List ℕ) → 0 < length digits → length digits ≤ most → AllPass is_ascii_digit digits
    → prefix_len is_ascii_digit rest ≡ 0 → digits_at most (digits ++ rest) ≡ Some (digits, rest)
unfolding digits_at
digits_again most digits rest some short all stops =
    let whole : prefix_len is_ascii_digit digits ≡ length digits = prefix_len_is is_ascii_digit digits (length digits) 0 (omega arith) (λ k h. all k 0 h) (λ h. absurd (omega arith)) in
    let count : prefix_len is_ascii_digit (digits ++ rest) ≡ length digits =
    rw (prefix_len-append is_ascii_digit digits rest, whole, stops) (either_way (length digits == length digits) (length digits)) in
    rw (count, take_at digits rest (length digits) refl, drop_at digits rest (length digits) refl, lt-ltb 0 (length digits) some, le-leb (length digits) most short) refl

ending_stops : (ending : List ℕ) → (ending ≡ []) ⊎ (ending ≡ codes "s") → prefix_len is_ascii_digit ending ≡ 0
ending_stops ending unit = elim unit [ inl none ↦ rw none refl | inr s ↦ rw s refl ]

ending_ends : (ending : List ℕ) → (ending ≡ []) ⊎ (ending ≡ codes "s") → is_ending ending ≡ true
ending_ends ending unit = elim unit [ inl none ↦ rw none refl | inr s ↦ rw s refl ]

fraction_stops : (digits ending : List ℕ) → (ending ≡ []) ⊎ (ending ≡ codes "s") → prefix_len is_ascii_digit (fraction_text digits ++ ending) ≡ 0
fraction_stops [] ending unit = ending_stops ending unit
fraction_stops (d ∷ ds) ending unit = refl

fraction_again : (digits ending : List ℕ) → length digits ≤ 12 → AllPass is_ascii_digit digits → (ending ≡ []) ⊎ (ending ≡ codes "s")
    → fraction_at (fraction_text digits ++ ending) ≡ Some (digits, ending)
unfolding fraction_at
fraction_again [] ending short all unit = elim unit [ inl none ↦ rw none refl | inr s ↦ rw s refl ]
fraction_again (d ∷ ds) ending short all unit = digits_again 12 (d ∷ ds) ending (omega arith) short all (ending_stops ending unit)

pub stamp_again : (text : List ℕ) (n : ℕ) → IsStamp text n → stamp_of text ≡ Some n
unfolding stamp_of
stamp_again text n is =
    let rest = fraction_text is.fraction ++ is.ending in
    let first = digits_again 10 is.seconds rest is.some is.short is.digits (fraction_stops is.fraction is.ending is.unit) in
    let second = fraction_again is.fraction is.ending is.short_fraction is.fraction_digits is.unit in
    ap stamp_of is.spelled ∙ rw (first, second, ending_ends is.ending is.unit) (ap Some (sym is.value))

-- ---- digits after the point

pub unit_some : (k : ℕ) → 0 < 10 ^ k
unit_some k = one-le-pow k 10 (lit< tt)

-- the first digit of a number of so many places
digit_small : (k n : ℕ) → n < 10 ^ suc k → n / 10 ^ k < 10
digit_small k n below =
    let whole : 10 ^ suc k ≡ 10 * 10 ^ k = pow-succ' 10 k in (div-lt_iff_lt-mul (unit_some k)).1 (omega (arith, whole))

pub first_digit : (places n : ℕ) → 0 < n → n < 10 ^ places → n / 10 ^ (places - 1) < 10
first_digit zero n some below = absurd (omega arith)
first_digit (suc k) n some below = rw sub-one (digit_small k n below)

-- a number that isn't 0 begins with that digit
digits-suc : (k n : ℕ) → 0 < n → digits_after_point (suc k) n ≡ (48 + n / 10 ^ k) ∷ digits_after_point k (n % 10 ^ k)
unfolding digits_after_point
digits-suc k n some =
    let other : (n == 0) ≡ false = grind (arith, nat_tests) in rw other refl

pub digits-first : (places n : ℕ) → 0 < n → n < 10 ^ places
    → digits_after_point places n ≡ (48 + n / 10 ^ (places - 1)) ∷ digits_after_point (places - 1) (n % 10 ^ (places - 1))
digits-first zero n some below = absurd (omega arith)
digits-first (suc k) n some below = rw sub-one (digits-suc k n some)

pub digits-zero : (places : ℕ) → digits_after_point places 0 ≡ []
unfolding digits_after_point
digits-zero zero = refl
digits-zero (suc k) = refl

-- what the digits write, where they follow others
value_after : (m : ℕ) (ds : List ℕ) → digits_value_after 10 m ds ≡ m * 10 ^ length ds + digits_value 10 ds
value_after m [] = omega arith
value_after m (c ∷ ds) =
    let more = value_after (m * 10 + digit_value c) ds in
    let alone = value_after (0 + digit_value c) ds in
    let tens : m * 10 ^ suc (length ds) ≡ m * (10 * 10 ^ length ds) = ap (λ (x : ℕ). m * x) (pow-succ' 10 (length ds)) in
    rw (more, alone, tens) (omega arith)

-- the digits of a number below 10 ^ k, read as a fraction of k places, are the number
record WritesPlaces (k n : ℕ) (ds : List ℕ) : Type 0 where
  short : length ds ≤ k
  all : AllPass is_ascii_digit ds
  value : digits_value 10 ds * 10 ^ (k - length ds) ≡ n

all_cons : (c : ℕ) (ds : List ℕ) → is_ascii_digit c ≡ true → AllPass is_ascii_digit ds → AllPass is_ascii_digit (c ∷ ds)
all_cons c ds is all zero d within = is
all_cons c ds is all (suc k) d within = all k d (omega arith)

digit_char_is : (d : ℕ) → d < 10 → (is_ascii_digit (48 + d) ≡ true) × (digit_value (48 + d) ≡ d)
digit_char_is d small = (grind (arith, nat_tests), grind (arith, nat_tests))

combined : (q p u v r n t : ℕ) → p * u ≡ t → v * u ≡ r → t * q + r ≡ n → (q * p + v) * u ≡ n
combined q p u v r n t first second third = omega (arith, ap (λ (m : ℕ). q * m) first, second, third)

one_place_more : (k n : ℕ) (rest : List ℕ) → n / 10 ^ k < 10 → WritesPlaces k (n % 10 ^ k) rest → WritesPlaces (suc k) n ((48 + n / 10 ^ k) ∷ rest)
one_place_more k n rest small is =
    let q = n / 10 ^ k in
    let digit = digit_char_is q small in
    let value = digits_value 10 rest in
    let digits : digits_value 10 ((48 + q) ∷ rest) ≡ q * 10 ^ length rest + value =
    value_after (0 + digit_value (48 + q)) rest ∙ ap (λ (m : ℕ). m * 10 ^ length rest + value) (omega (arith, digit.1)) in
    let places : suc k - suc (length rest) ≡ k - length rest = omega arith in
    let whole : 10 ^ length rest * 10 ^ (k - length rest) ≡ 10 ^ k = sym (pow-add 10 (length rest) (k - length rest)) ∙ ap (λ (m : ℕ). 10 ^ m) (omega (arith, is.short)) in
    record {
      short = omega (arith, is.short);
      all = all_cons (48 + q) rest digit.0 is.all;
      value =
          ap (λ (m : ℕ). m * 10 ^ (suc k - suc (length rest))) digits ∙ ap (λ (m : ℕ). (q * 10 ^ length rest + value) * 10 ^ m) places
          ∙ combined q (10 ^ length rest) (10 ^ (k - length rest)) value (n % 10 ^ k) n (10 ^ k) whole is.value (div-add-mod n (10 ^ k));
    }

no_places : (k : ℕ) → WritesPlaces k 0 []
no_places k = record { short = omega arith; all = none_pass; value = omega arith }

at_zero : (k n : ℕ) → n ≡ 0 → WritesPlaces k n (digits_after_point k n)
at_zero k n none = rw (none, digits-zero k) (no_places k)

writes_places : (k n : ℕ) → n < 10 ^ k → WritesPlaces k n (digits_after_point k n)
writes_places zero n below = at_zero zero n (omega arith)
writes_places (suc k) n below =
    elim (eq-zero-or-pos n) [
      | inl none ↦ at_zero (suc k) n none
      | inr some ↦
          let rest = writes_places k (n % 10 ^ k) (mod-lt n (unit_some k)) in
          rw (digits-suc k n some) (one_place_more k n (digits_after_point k (n % 10 ^ k)) (digit_small k n below) rest)
    ]

pub places_digits : (k n : ℕ) → n < 10 ^ k → AllPass is_ascii_digit (digits_after_point k n)
places_digits k n below = (writes_places k n below).all

-- a fraction of nine places reads as its nanoseconds
nanos_again : (n : ℕ) → n < 10 ^ 9 → nanos_of (digits_after_point 9 n) ≡ n
nanos_again n below =
    let is = writes_places 9 n below in
    let digits = digits_after_point 9 n in
    let whole : take 9 digits ≡ digits = take_all 9 digits is.short in
    rw whole is.value

-- a numeral in base ten is a list of ASCII digits
pub ascii_numerals : IsNumeralModel (λ ds. list_all is_ascii_digit ds ≡ true) (digits_value 10)
ascii_numerals = numerals_by_value _ (search rules)

-- what a stamp is written as is in the grammar, with its number
pub stamp_written : (n : ℕ) → n < 10 ^ 19 → IsStamp (stamp_text n) n
stamp_written n below =
    let q = n / 10 ^ 9 in
    let r = n % 10 ^ 9 in
    let small : q < 2 ^ 64 = omega arith in
    let fraction = writes_places 9 r (omega arith) in
    record {
      seconds = decimal q;
      fraction = digits_after_point 9 r;
      ending = codes "s";
      spelled = append_assoc (decimal q) (fraction_text (digits_after_point 9 r)) (codes "s");
      some = decimal_nonempty q small;
      short = length-decimal-le 10 q (lit< tt) (omega arith) small;
      digits = AllPass-from_list_all is_ascii_digit (decimal q) (digits_decimal ascii_numerals q small);
      short_fraction = omega (arith, fraction.short);
      fraction_digits = fraction.all;
      unit = inr refl;
      value = rw (digits_value-decimal ascii_numerals q small, nanos_again r (omega arith)) (omega arith);
    }
