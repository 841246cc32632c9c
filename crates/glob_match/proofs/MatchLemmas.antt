-- The test of a match says whether there is a cut.
use Rattle.std.proofs.Common.{◌≡◌, ℕ, ◌==◌, Bool, true, false, List, [], ◌∷◌, ◌++◌, length, refl, sym, ap, ◌∙◌, inl, inr, arith}
use Rattle.std.proofs.lemmas.Bool.{and_parts, eqb-true, or_cases, or_right}
use Rattle.std.specs.List.{concat}
use Rattle.annex_base.proofs.Conditions.{by_test, eqb_refl}
use Rattle.glob_match.specs.declared.item.Item.{Item}
use Rattle.glob_match.specs.declared.item.Item.TheVariants.{AnyRun, AnyOne, OneOf, Only}
use Rattle.glob_match.specs.Glob.{FitsItem, FitEach, IsMatch, is_run, takes, is_nothing, some_rest, first_and_rest, glob_matches}
use Rattle.glob_match.proofs.WalkLemmas.{run_matches, one_matches, rest_from_whole}

-- a front, and the rest that passes
record Cut (passes : List ℕ → Bool) (text : List ℕ) : Type 0 where
  front : List ℕ
  rest : List ℕ
  whole : text ≡ front ++ rest
  passed : passes rest ≡ true

rest_cut : (p : List ℕ → Bool) (text : List ℕ) → some_rest p text ≡ true → Cut p text
rest_cut p [] e = record { front = []; rest = []; whole = refl; passed = e }
rest_cut p (c ∷ cs) e =
    elim (or_cases (p (c ∷ cs)) (some_rest p cs) e) [
      | inl here ↦ record { front = []; rest = c ∷ cs; whole = refl; passed = here }
      | inr later ↦ let k = rest_cut p cs later in record { front = c ∷ k.front; rest = k.rest; whole = ap (λ (w : List ℕ). c ∷ w) k.whole; passed = k.passed }
    ]

rest_after : (p : List ℕ → Bool) (front rest : List ℕ) → p rest ≡ true → some_rest p (front ++ rest) ≡ true
rest_after p [] rest e = rest_from_whole p rest e
rest_after p (c ∷ front) rest e = or_right (p (c ∷ (front ++ rest))) (some_rest p (front ++ rest)) (rest_after p front rest e)

run_fits : (i : Item) (part : List ℕ) → is_run i ≡ true → FitsItem i part
run_fits AnyRun part e = tt
run_fits AnyOne part e = cc
run_fits (OneOf members) part e = cc
run_fits (Only c) part e = cc

same_char : (d c : ℕ) → (d == c) ≡ true → c ∷ [] ≡ d ∷ []
same_char d c e = ap (λ (n : ℕ). n ∷ []) (sym (eqb-true d c e))

taken_fits : (i : Item) (c : ℕ) → takes i c ≡ true → FitsItem i (c ∷ [])
taken_fits AnyRun c e = tt
taken_fits AnyOne c e = refl
taken_fits (OneOf members) c e = (c, refl, e)
taken_fits (Only d) c e = same_char d c e

-- one character that an item takes
abbrev Single : Item → List ℕ → Type 0
Single i part = (c : ℕ) × (part ≡ c ∷ []) × (takes i c ≡ true)

one_char : (part : List ℕ) → length part ≡ 1 → Single AnyOne part
one_char [] e = absurd (omega (arith, e))
one_char (c ∷ []) e = (c, refl, refl)
one_char (c ∷ d ∷ rest) e = absurd (omega (arith, e))

fits_single : (i : Item) (part : List ℕ) → is_run i ≡ false → FitsItem i part → Single i part
fits_single AnyRun part r f = cc
fits_single AnyOne part r f = one_char part f
fits_single (OneOf members) part r f = f
fits_single (Only c) part r f = (c, f, eqb_refl c)

nothing_is : (cs : List ℕ) → is_nothing cs ≡ true → cs ≡ []
nothing_is [] e = refl
nothing_is (c ∷ cs) e = cc

with_part : (i : Item) (items : List Item) (text part rest : List ℕ) → text ≡ part ++ rest → FitsItem i part → IsMatch items rest → IsMatch (i ∷ items) text
with_part i items text part rest whole f m = record { parts = part ∷ m.parts; fit = (f, m.fit); cut = whole ∙ ap (λ (w : List ℕ). part ++ w) m.cut }

first_cut : (one : ℕ → Bool) (p : List ℕ → Bool) (text : List ℕ) → first_and_rest one p text ≡ true → (c : ℕ) × (rest : List ℕ) × (text ≡ c ∷ rest) × (one c ≡ true) × (p rest ≡ true)
first_cut one p [] e = cc
first_cut one p (c ∷ cs) e = let k = and_parts (one c) (p cs) e in (c, cs, refl, k.0, k.1)

pub match_from_test : (items : List Item) (text : List ℕ) → glob_matches items text ≡ true → IsMatch items text
match_from_test [] text e = record { parts = []; fit = tt; cut = nothing_is text e }
match_from_test (i ∷ items) text e =
    by_test (is_run i)
    (λ r. let k = rest_cut (glob_matches items) text (sym (ap (λ (f : List ℕ → Bool). f text) (run_matches i items r)) ∙ e) in
    with_part i items text k.front k.rest k.whole (run_fits i k.front r) (match_from_test items k.rest k.passed))
    (λ r. let k = first_cut (takes i) (glob_matches items) text (sym (ap (λ (f : List ℕ → Bool). f text) (one_matches i items r)) ∙ e) in
    with_part i items text (k.0 ∷ []) k.1 k.2 (taken_fits i k.0 k.3) (match_from_test items k.1 k.4))

one_passes : (one : ℕ → Bool) (p : List ℕ → Bool) (c : ℕ) (part rest : List ℕ) → part ≡ c ∷ [] → one c ≡ true → p rest ≡ true → first_and_rest one p (part ++ rest) ≡ true
one_passes one p c part rest e o r = rw e (rw (o, r) refl)

test_from_parts : (items : List Item) (parts : List (List ℕ)) → FitEach items parts → glob_matches items (concat parts) ≡ true
test_from_parts [] [] f = refl
test_from_parts [] (part ∷ parts) f = absurd f
test_from_parts (i ∷ items) [] f = absurd f
test_from_parts (i ∷ items) (part ∷ parts) f =
    let later : glob_matches items (concat parts) ≡ true = test_from_parts items parts f.1 in
    by_test (is_run i)
    (λ r. ap (λ (g : List ℕ → Bool). g (part ++ concat parts)) (run_matches i items r) ∙ rest_after (glob_matches items) part (concat parts) later)
    (λ r. let k = fits_single i part r f.0 in
    ap (λ (g : List ℕ → Bool). g (part ++ concat parts)) (one_matches i items r) ∙ one_passes (takes i) (glob_matches items) k.0 part (concat parts) k.1 k.2 later)

pub test_from_match : (items : List Item) (text : List ℕ) → IsMatch items text → glob_matches items text ≡ true
test_from_match items text m = ap (λ (w : List ℕ). glob_matches items w) m.cut ∙ test_from_parts items m.parts m.fit
