-- Stamps at the front and at the end of a line.
use Rattle.std.proofs.Common.{◌⊎◌, inl, inr, ◌≡◌, ℕ, ◌^◌, ◌<◌, ◌≤◌, Bool, true, ◌==◌, List, [], ◌∷◌, ◌++◌, length, take, drop, codes, lit<, Option, Some, None, refl, ap, subst, ◌∙◌, arith}
use Rattle.std.specs.Char.{is_ascii_digit}
use Rattle.std.specs.List.{AllPass, list_all, starts_with}
use Rattle.std.specs.Str.Parse.{digits_value}
use Rattle.std.proofs.Math.Nat.{pow-le-pow_right}
use Rattle.std.proofs.lemmas.List.{get_or-take, length-take}
use Rattle.std.proofs.lemmas.Bool.Decides.{nat_tests, Decides-eqb}
use Rattle.std.proofs.lemmas.List.Sums.{list_all-from_AllPass}
use Rattle.std.proofs.lemmas.Slice.Eq.{starts_is}
use Rattle.std.proofs.lemmas.Option.{cond_some, same_Some}
use Rattle.std.proofs.lemmas.Bool.{and_parts}
use Rattle.annex_base.specs.StampText.{IsStamp, fraction_text, nanos_of}
use Rattle.annex_base.specs.StampReading.{stamp_of}
use Rattle.annex_base.proofs.StampLemmas.{stamp_takes, stamp_again, digits_below, scaled_below}
use Rattle.annex_base.proofs.Options.{bind_some, map_some, none_by, none_and_some}
use Rattle.annex_base.proofs.Lists.{list_all_append, list_all_parts}
use Rattle.annex_base.proofs.Numbers.{fraction_all}
use Rattle.annex_base.specs.Lines.{space, is_not_space}
use Rattle.log_grammar.specs.LineText.{IsWord, stamp_mark, EndsMarked, BeginsStamped, Ends}
use Rattle.log_grammar.specs.Reading.{first_word, last_word, after_mark, mark_at, end_of, stamp_end, stamp_front}
use Rattle.log_grammar.proofs.WordLemmas.{first_again, first_takes, last_again, last_takes}

-- ---- a stamp is a word

-- what holds of digits, the point and the unit holds of a stamp's bytes
digits_all : (p : ℕ → Bool) → ((b : ℕ) → is_ascii_digit b ≡ true → p b ≡ true) → (ds : List ℕ) → list_all is_ascii_digit ds ≡ true → list_all p ds ≡ true
digits_all p digit [] all = refl
digits_all p digit (d ∷ ds) all =
    let both = and_parts (is_ascii_digit d) (list_all is_ascii_digit ds) all in rw (digit d both.0, digits_all p digit ds both.1) refl

pub digits_pass : (p : ℕ → Bool) → ((b : ℕ) → is_ascii_digit b ≡ true → p b ≡ true) → (ds : List ℕ) → AllPass is_ascii_digit ds → list_all p ds ≡ true
digits_pass p digit ds all = digits_all p digit ds (list_all-from_AllPass is_ascii_digit ds all)

ending_all : (p : ℕ → Bool) → p 115 ≡ true → (ending : List ℕ) → (ending ≡ []) ⊎ (ending ≡ codes "s") → list_all p ending ≡ true
ending_all p unit ending is = elim is [ inl none ↦ rw none refl | inr s ↦ rw (s, unit) refl ]

pub stamp_all : (p : ℕ → Bool) → ((b : ℕ) → is_ascii_digit b ≡ true → p b ≡ true) → p 46 ≡ true → p 115 ≡ true → (text : List ℕ) (n : ℕ) → IsStamp text n → list_all p text ≡ true
stamp_all p digit point unit text n is =
    ap (list_all p) is.spelled
    ∙ list_all_append p is.seconds (fraction_text is.fraction ++ is.ending) (digits_pass p digit is.seconds is.digits)
    (list_all_append p (fraction_text is.fraction) is.ending (fraction_all p point is.fraction (digits_pass p digit is.fraction is.fraction_digits)) (ending_all p unit is.ending is.unit))

pub digit_no_space : (b : ℕ) → is_ascii_digit b ≡ true → is_not_space b ≡ true
digit_no_space b is = grind (arith, nat_tests)

pub stamp_word : (text : List ℕ) (n : ℕ) → IsStamp text n → IsWord text
stamp_word text n is = stamp_all is_not_space digit_no_space refl refl text n is

-- a stamp's number is below 10 ^ 19
front_passes : (ds : List ℕ) → AllPass is_ascii_digit ds → AllPass is_ascii_digit (take 9 ds)
front_passes ds all k d within =
    let low : k < 9 = omega (arith, length-take 9 ds, within) in
    let inside : k < length ds = omega (arith, length-take 9 ds, within) in
    rw (get_or-take 9 ds k d low) (all k d inside)

pub nanos_below : (ds : List ℕ) → AllPass is_ascii_digit ds → nanos_of ds < 10 ^ 9
nanos_below ds all =
    let front = take 9 ds in
    let short : length front ≤ 9 = omega (arith, length-take 9 ds) in
    scaled_below (digits_value 10 front) (length front) 9 short (digits_below front (front_passes ds all))

pub stamp_below : (text : List ℕ) (n : ℕ) → IsStamp text n → n < 10 ^ 19
stamp_below text n is =
    let seconds : digits_value 10 is.seconds < 10 ^ 10 =
    omega (arith, digits_below is.seconds is.digits, pow-le-pow_right {n = 10} (lit< tt) {i = length is.seconds} {j = 10} is.short) in
    omega (arith, is.value, seconds, nanos_below is.fraction is.fraction_digits)

-- ---- a stamp in front

pub front_takes : (line : List ℕ) (x : ℕ × List ℕ) → stamp_front line ≡ Some x → BeginsStamped line x.0 x.1
unfolding stamp_front
front_takes line x e =
    let first = bind_some (first_word line) _ x e in
    let time = bind_some (stamp_of first.0.0) _ x first.2 in
    let same : (time.0, first.0.1) ≡ x = same_Some (time.0, first.0.1) x time.2 in
    subst (λ (y : ℕ × List ℕ). BeginsStamped line y.0 y.1) same
    (record { stamp = first.0.0; is = stamp_takes first.0.0 time.0 time.1; spelled = first_takes line first.0 first.1 })

pub front_again : (line : List ℕ) (time : ℕ) (rest : List ℕ) → BeginsStamped line time rest → stamp_front line ≡ Some (time, rest)
unfolding stamp_front
front_again line time rest is =
    let first : first_word line ≡ Some (is.stamp, rest) = ap first_word is.spelled ∙ first_again is.stamp rest (stamp_word is.stamp time is.is) in
    rw (first, stamp_again is.stamp time is.is) refl

-- ---- a stamp at the end

mark_again : (front rest : List ℕ) → IsWord rest → mark_at (front ++ space ∷ (stamp_mark ++ rest)) ≡ Some (front, rest)
unfolding mark_at after_mark
mark_again front rest is = rw (last_again front (stamp_mark ++ rest) (list_all_append is_not_space stamp_mark rest refl is)) refl

mark_takes : (line : List ℕ) (x : List ℕ × List ℕ) → mark_at line ≡ Some x → IsWord x.1 × (line ≡ x.0 ++ space ∷ (stamp_mark ++ x.1))
unfolding mark_at after_mark
mark_takes line x e =
    let last = bind_some (last_word line) _ x e in
    let text = map_some (after_mark last.0.1) _ x last.2 in
    let is = last_takes line last.0 last.1 in
    let test = cond_some (starts_with ◌==◌ last.0.1 stamp_mark) (drop 10 last.0.1) text.0 text.1 in
    let marked : last.0.1 ≡ stamp_mark ++ drop 10 last.0.1 = (starts_is Decides-eqb last.0.1 stamp_mark (starts_with ◌==◌ last.0.1 stamp_mark) refl).0 test.0 in
    let same : (last.0.0, drop 10 last.0.1) ≡ x = ap (λ (t : List ℕ). (last.0.0, t)) test.1 ∙ text.2 in
    subst (λ (y : List ℕ × List ℕ). IsWord y.1 × (line ≡ y.0 ++ space ∷ (stamp_mark ++ y.1))) same (
      (list_all_parts is_not_space stamp_mark (drop 10 last.0.1) (subst IsWord marked is.0)).1,
      is.1 ∙ ap (λ (w : List ℕ). last.0.0 ++ space ∷ w) marked,
    )

marked : (line : List ℕ) (has : EndsMarked line) → mark_at line ≡ Some (has.front, has.rest)
marked line has = ap mark_at has.spelled ∙ mark_again has.front has.rest has.word

mark_none : (line : List ℕ) → ¬ EndsMarked line → mark_at line ≡ None
mark_none line other =
    none_by (mark_at line) (λ x e. let is = mark_takes line x e in other (record { front = x.0; rest = x.1; spelled = is.1; word = is.0 }))

end_cases : (line : List ℕ) (o : Option (List ℕ × List ℕ)) (x : List ℕ × Option ℕ) → mark_at line ≡ o → end_of line o ≡ Some x → Ends line x.0 x.1
end_cases line None x at e =
    subst (λ (y : List ℕ × Option ℕ). Ends line y.0 y.1) (same_Some (line, None) x e)
    (λ has. none_and_some (mark_at line) (has.front, has.rest) at (marked line has), refl)
end_cases line (Some m) x at e =
    let time = map_some (stamp_of m.1) _ x e in
    subst (λ (y : List ℕ × Option ℕ). Ends line y.0 y.1) time.2
    (record { stamp = m.1; is = stamp_takes m.1 time.0 time.1; spelled = (mark_takes line m at).1 })

pub end_takes : (line : List ℕ) (x : List ℕ × Option ℕ) → stamp_end line ≡ Some x → Ends line x.0 x.1
unfolding stamp_end
end_takes line x e = end_cases line (mark_at line) x refl e

pub end_again : (line front : List ℕ) (stamp : Option ℕ) → Ends line front stamp → stamp_end line ≡ Some (front, stamp)
unfolding stamp_end
end_again line front None is = rw (mark_none line is.0) (ap (λ (l : List ℕ). Some (l, None)) is.1)
end_again line front (Some time) is =
    let at : mark_at line ≡ Some (front, is.stamp) = ap mark_at is.spelled ∙ mark_again front is.stamp (stamp_word is.stamp time is.is) in
    rw (at, stamp_again is.stamp time is.is) refl
