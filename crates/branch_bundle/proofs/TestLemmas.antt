-- What the tests of a bundle's front answer.
use Rattle.std.proofs.Common.{◌≡◌, inl, inr, ◌↔◌, ℕ, zero, suc, ◌+◌, ◌-◌, ◌*◌, ◌<◌, ◌≤◌, ◌^◌, Bool, true, false, List, [], ◌∷◌, ◌++◌, length, Option, Some, None, IsTrue, is_some, arith, refl, sym, ap, subst, ◌∙◌, length-append}
use Rattle.std.specs.Bool.{◌==◌, nat_le}
use Rattle.std.specs.Borrow.{Bor}
use Rattle.std.specs.Option.{MatchOption}
use Rattle.std.specs.List.{list_all}
use Rattle.std.specs.Char.{is_ascii_digit}
use Rattle.std.specs.Ordering.{is_lt}
use Rattle.std.proofs.lemmas.Bool.{and_from, and_parts, true≢false, leb-true, le-leb, cases_lt}
use Rattle.std.proofs.lemmas.Bool.Decides.{eqb_tells}
use Rattle.std.proofs.lemmas.List.{append-nil, nil_from_length}
use Rattle.std.proofs.lemmas.Option.{none-some}
use Rattle.annex_base.specs.Decimal.{number_of}
use Rattle.annex_base.specs.ByteOrder.{text_cmp}
use Rattle.annex_base.specs.Lists.{Each}
use Rattle.annex_base.proofs.DecimalLemmas.{number_is, number_some}
use Rattle.annex_base.specs.Lines.{newline, space}
use Rattle.annex_base.proofs.Conditions.{decided, denied}
use Rattle.union_merge.specs.LineSet.{IsLine}
use Rattle.branch_bundle.specs.Bundle.{IsByte, number_text, BeginsBundle}
use Rattle.branch_bundle.specs.Parts.{IsFree, IsCut, file_of, fill, ends_well, BeginsLines, BeginsPath, BeginsNumber, BeginsFile, BeginsFiles, MayFollow}
use Rattle.branch_bundle.proofs.NumberLemmas.{IsDigit, number_text-one, number_text-first, number_text-digits, number_text-injective, number_text-is, number_text-decimal}
use Rattle.branch_bundle.proofs.TextLemmas.{word}
use Rattle.branch_bundle.proofs.EndLemmas.{lt_is, is_before, ends_found, ends_told, after_set, set_after, begins_lines-told, begins_lines-found}
use Rattle.branch_bundle.proofs.BeginLemmas.{path_free-told, path_free-found, path_cut-told, path_cut-found, path-large, number_free-told, number_free-found, number_cut-told, number_cut-found, file_word-told, file_word-found, file_number-told, file_number-found, header, bundle_header-told, bundle_header-found, bundle_files-told, bundle_files-found, files_none-found, files_file-found, files_file-told, files_more-told}

-- ---- numbers

one_more : (n : ℕ) → (d : ℕ) × (ds : List ℕ) × (number_text n ≡ d ∷ ds)
one_more zero = (48, [], number_text-one 0 (omega arith))
one_more (suc n) = let h = number_text-first (suc n) (omega arith) in (h.0, h.1, h.2)

pub no_number_text : (text : List ℕ) → length text ≡ 0 → (n : ℕ) × (text ≡ number_text n) → ⊥
no_number_text text none number = let h = one_more number.0 in omega (arith, none, ap length (number.1 ∙ h.2))

pub zero_text : (text rest : List ℕ) (first : ℕ) (b : Bool) → text ≡ first ∷ rest → first ≡ 48 → b ≡ (length rest == 0) → IsTrue b ↔ ((n : ℕ) × (text ≡ number_text n))
zero_text text rest first b is zero_first test = decided b (length rest == 0) ((n : ℕ) × (text ≡ number_text n)) test (λ holds. found rest holds (is ∙ ap (λ (w : ℕ). w ∷ rest) zero_first)) (λ number. told number.0 (sym number.1 ∙ is)) where
  found : (rest : List ℕ) → (length rest == 0) ≡ true → text ≡ 48 ∷ rest → (n : ℕ) × (text ≡ number_text n)
  found [] holds is = (0, is ∙ sym (number_text-one 0 (omega arith)))
  found (x ∷ xs) holds is = elim (eqb_tells (length (x ∷ xs)) 0) [ inl none ↦ absurd (omega (arith, none.1)) | inr some ↦ absurd (true≢false (sym holds ∙ some.0)) ]

  told : (n : ℕ) → number_text n ≡ first ∷ rest → (length rest == 0) ≡ true
  told zero e = let h : 48 ∷ [] ≡ first ∷ rest = sym (number_text-one 0 (omega arith)) ∙ e in let none : [] ≡ rest = cc in ap (λ (w : List ℕ). length w == 0) (sym none)
  told (suc n) e =
      let h = number_text-first (suc n) (omega arith) in
      let same : h.0 ∷ h.1 ≡ first ∷ rest = sym h.2 ∙ e in
      let head : h.0 ≡ first = cc in
      absurd (omega (arith, head, h.3, zero_first))

digit_of : (d : ℕ) → is_ascii_digit d ≡ true → IsDigit d
digit_of d holds = let h = and_parts (nat_le 48 d) (nat_le d 57) holds in (leb-true 48 d h.0, leb-true d 57 h.1)

digit_is : (d : ℕ) → IsDigit d → is_ascii_digit d ≡ true
digit_is d is = and_from (nat_le 48 d) (nat_le d 57) (le-leb 48 d is.0) (le-leb d 57 is.1)

each_digit : (ds : List ℕ) → list_all is_ascii_digit ds ≡ true → Each IsDigit ds
each_digit [] holds = tt
each_digit (d ∷ ds) holds = let h = and_parts (is_ascii_digit d) (list_all is_ascii_digit ds) holds in (digit_of d h.0, each_digit ds h.1)

all_digits : (ds : List ℕ) → Each IsDigit ds → list_all is_ascii_digit ds ≡ true
all_digits [] each = refl
all_digits (d ∷ ds) each = and_from (is_ascii_digit d) (list_all is_ascii_digit ds) (digit_is d each.0) (all_digits ds each.1)

pub digits_text : (text rest : List ℕ) (first : ℕ) (b : Bool) → text ≡ first ∷ rest → (first ≡ 48 → ⊥) → b ≡ list_all is_ascii_digit text → IsTrue b ↔ ((n : ℕ) × (text ≡ number_text n))
digits_text text rest first b is other test = decided b (list_all is_ascii_digit text) ((n : ℕ) × (text ≡ number_text n)) test
    (λ holds. found (subst (Each IsDigit) is (each_digit text holds)))
    (λ number. all_digits text (subst (Each IsDigit) (sym number.1) (number_text-digits number.0))) where
      found : Each IsDigit (first ∷ rest) → (n : ℕ) × (text ≡ number_text n)
      found each = let h = number_text-is first rest (above each.0) each.0.1 each.1 in (h.0, is ∙ sym h.2) where
        above : IsDigit first → 48 < first
        above is = elim (cases_lt 48 first) [ inl low ↦ low | inr high ↦ absurd (other (omega (arith, is.0, high))) ]

-- ---- lines

pub lines_test : (n : ℕ) (text : List ℕ) (b : Bool) → length text ≤ n → b ≡ ends_well [] [] text (n - length text) → IsTrue b ↔ BeginsLines n text
lines_test n text b within test = decided b (ends_well [] [] text (n - length text)) (BeginsLines n text) test (begins_lines-found n text within) (begins_lines-told n text within)

pub may_follow_test : (before path text : List ℕ) (b : Bool) → is_lt (text_cmp before path) ≡ true → b ≡ ends_well [] [] text 0 → IsTrue b ↔ MayFollow before path text
may_follow_test before path text b less test = decided b (ends_well [] [] text 0) (MayFollow before path text) test
    (λ passes.
    let h = ends_found text [] [] 0 (λ none. none) passes in
    record {
      below = is_before before path less;
      lines = h.0;
      set = after_set h.0 h.2;
      spelled = sym (ap (λ (w : List ℕ). text ++ w) (nil_from_length h.1 h.4) ∙ append-nil text) ∙ h.5;
    })
    (λ may. ends_told text [] [] 0 may.lines [] (λ none. none) (set_after may.lines may.set) tt refl (append-nil text ∙ may.spelled))

pub may_follow_below : (before path text : List ℕ) (b : Bool) → is_lt (text_cmp before path) ≡ false → b ≡ false → IsTrue b ↔ MayFollow before path text
may_follow_below before path text b fails test = denied b (MayFollow before path text) test (λ may. true≢false (sym (lt_is before path may.below) ∙ fails))

-- ---- paths

pub path_free_test : (n : ℕ) (before text : List ℕ) (b : Bool) → Each IsByte before → IsFree newline text → (n ≡ 1 → ⊥) → b ≡ is_lt (text_cmp before (text ++ fill (length before + 1))) → IsTrue b ↔ BeginsPath n before text
path_free_test n before text b bytes free other test = decided b (is_lt (text_cmp before (text ++ fill (length before + 1)))) (BeginsPath n before text) test
    (λ passes. path_free-found n (length before + 1) before text free other (is_before before (text ++ fill (length before + 1)) passes))
    (λ begins. lt_is before (text ++ fill (length before + 1)) (path_free-told n before text bytes free begins).1)

pub path_one_test : (n : ℕ) (before text : List ℕ) (b : Bool) → Each IsByte before → IsFree newline text → n ≡ 1 → b ≡ false → IsTrue b ↔ BeginsPath n before text
path_one_test n before text b bytes free one fails = denied b (BeginsPath n before text) fails (λ begins. (path_free-told n before text bytes free begins).0 one)

pub path_cut_test : (n : ℕ) (before text front back : List ℕ) (b : Bool) → IsCut newline text front back → is_lt (text_cmp before front) ≡ true → IsTrue b ↔ BeginsLines n back → IsTrue b ↔ BeginsPath n before text
path_cut_test n before text front back b cut less test =
    (λ holds. path_cut-found n before text front back cut (is_before before front less) (test.0 holds), λ begins. test.1 (path_cut-told n before text front back cut begins).2)

pub path_below_test : (n : ℕ) (before text front back : List ℕ) (b : Bool) → IsCut newline text front back → is_lt (text_cmp before front) ≡ false → b ≡ false → IsTrue b ↔ BeginsPath n before text
path_below_test n before text front back b cut fails test = denied b (BeginsPath n before text) test (λ begins. true≢false (sym (lt_is before front (path_cut-told n before text front back cut begins).0) ∙ fails))

-- ---- numbers and what follows them

pub number_none_test : (before text : List ℕ) (b : Bool) → Each IsByte before → text ≡ [] → b ≡ true → IsTrue b ↔ BeginsNumber before text
number_none_test before text b bytes none holds = (λ _. number_free-found before text bytes (inl none), λ _. holds)

pub number_free_test : (before text : List ℕ) (b : Bool) → Each IsByte before → IsFree space text → (text ≡ [] → ⊥) → IsTrue b ↔ ((n : ℕ) × (text ≡ number_text n)) → IsTrue b ↔ BeginsNumber before text
number_free_test before text b bytes free some test = (
  λ holds. number_free-found before text bytes (inr (test.0 holds)),
  λ begins. elim (number_free-told before text free begins) [ inl none ↦ absurd (some none) | inr number ↦ test.1 number ],
)

pub number_cut_test : (before text front back : List ℕ) (n : ℕ) (b : Bool) → IsCut space text front back → front ≡ number_text n → IsTrue b ↔ BeginsPath n before back → IsTrue b ↔ BeginsNumber before text
number_cut_test before text front back n b cut number test = (
  λ holds. number_cut-found n before text front back cut number (test.0 holds),
  λ begins.
      let h = number_cut-told before text front back cut begins in
      test.1 (subst (λ k. BeginsPath k before back) (number_text-injective h.0 n (sym h.1 ∙ number)) h.2),
)

pub count_text : (front : List ℕ) (n : ℕ) → Some n ≡ number_of front → front ≡ number_text n
count_text front n some = let h = number_some front n (sym some) in h.0 ∙ sym (number_text-decimal n h.1)

-- a number past 64 bits counts as the greatest of 64 bits
pub number_large_test : (before text front back : List ℕ) (b : Bool) → Each IsByte before → IsCut space text front back → None ≡ number_of front → (n : ℕ) × (front ≡ number_text n) → length text < 2 ^ 63 → IsTrue b ↔ BeginsPath (2 ^ 64 - 1) before back → IsTrue b ↔ BeginsNumber before text
number_large_test before text front back b bytes cut none number short test =
    let long : 2 ^ 64 ≤ number.0 = past number.0 number.1 in
    let room : 2 * length back + 2 ≤ 2 ^ 64 - 1 = omega (arith, short, ap length cut.spelled, length-append front (space ∷ back)) in
    number_cut_test before text front back number.0 b cut number.1 (
      λ holds. path-large (2 ^ 64 - 1) number.0 before back bytes room (omega (arith, room, long)) (test.0 holds),
      λ begins. test.1 (path-large number.0 (2 ^ 64 - 1) before back bytes (omega (arith, room, long)) room begins),
    ) where
      past : (n : ℕ) → front ≡ number_text n → 2 ^ 64 ≤ n
      past n is = elim (cases_lt n (2 ^ 64)) [
        | inl small ↦ absurd (none-some n (none ∙ ap number_of (is ∙ number_text-decimal n small) ∙ number_is n small))
        | inr large ↦ large
      ]

pub number_bad_test : (before text front back : List ℕ) (b : Bool) → IsCut space text front back → ((n : ℕ) × (front ≡ number_text n) → ⊥) → b ≡ false → IsTrue b ↔ BeginsNumber before text
number_bad_test before text front back b cut other fails = denied b (BeginsNumber before text) fails (λ begins. let h = number_cut-told before text front back cut begins in other (h.0, h.1))

-- ---- files and bundles

pub file_number_test : (before text rest : List ℕ) (b : Bool) → text ≡ word ++ rest → IsTrue b ↔ BeginsNumber before rest → IsTrue b ↔ BeginsFile before text
file_number_test before text rest b is test = (λ holds. file_number-found before text rest is (test.0 holds), λ begins. test.1 (file_number-told before text rest is begins))

pub file_word_test : (before text : List ℕ) (b : Bool) (r : Option (Bor (List ℕ))) → Each IsByte before → ((rest : List ℕ) → text ≡ word ++ rest → ⊥)
    → MatchOption r ((rest : List ℕ) → word ≡ text ++ rest → ⊥) (λ rest. word ≡ text ++ rest.now) → b ≡ is_some r → IsTrue b ↔ BeginsFile before text
file_word_test before text b None bytes none other test = denied b (BeginsFile before text) test (λ begins. let h = file_word-told before text none begins in other h.0 h.1)
file_word_test before text b (Some rest) bytes none is test = (λ _. file_word-found before text rest.now bytes is, λ _. test)

pub bundle_header_test : (text : List ℕ) (b : Bool) (r : Option (Bor (List ℕ))) → ((rest : List ℕ) → text ≡ header ++ rest → ⊥)
    → MatchOption r ((rest : List ℕ) → header ≡ text ++ rest → ⊥) (λ rest. header ≡ text ++ rest.now) → b ≡ is_some r → IsTrue b ↔ BeginsBundle text
bundle_header_test text b None none other test = denied b (BeginsBundle text) test (λ begins. let h = bundle_header-told text none begins in other h.0 h.1)
bundle_header_test text b (Some rest) none is test = (λ _. bundle_header-found text rest.now is, λ _. test)

pub bundle_files_test : (text rest : List ℕ) (b : Bool) → text ≡ header ++ rest → IsTrue b ↔ BeginsFiles [] rest → IsTrue b ↔ BeginsBundle text
bundle_files_test text rest b is test = (λ holds. bundle_files-found text rest is (test.0 holds), λ begins. test.1 (bundle_files-told text rest is begins))

-- ---- the files of a text

pub files_bad_test : (before text path lines rest start : List ℕ) (b : Bool) → IsLine path → text ≡ file_of path lines ++ rest → (MayFollow before path lines → ⊥) → (BeginsFiles [] start → BeginsFiles before text) → b ≡ false → IsTrue b ↔ BeginsFiles [] start
files_bad_test before text path lines rest start b line is bad told test =
    denied b (BeginsFiles [] start) test (λ begins. bad (files_more-told before text path lines rest line is (told begins)).0)

pub files_none_test : (before text start : List ℕ) (b : Bool) → text ≡ [] → (BeginsFiles before text → BeginsFiles [] start) → b ≡ true → IsTrue b ↔ BeginsFiles [] start
files_none_test before text start b none found test = (λ _. found (files_none-found before text none), λ _. test)

pub files_file_test : (before text start : List ℕ) (b : Bool) → ((path lines rest : List ℕ) → IsLine path → text ≡ file_of path lines ++ rest → ⊥) → (text ≡ [] → ⊥)
    → (BeginsFiles before text → BeginsFiles [] start) → (BeginsFiles [] start → BeginsFiles before text) → IsTrue b ↔ BeginsFile before text → IsTrue b ↔ BeginsFiles [] start
files_file_test before text start b whole some found told test = (
  λ holds. found (files_file-found before text (test.0 holds)),
  λ begins. elim (files_file-told before text whole (told begins)) [ inl none ↦ absurd (some none) | inr file ↦ test.1 file ],
)

-- ---- the place

pub begins_empty : BeginsBundle []
begins_empty = bundle_header-found [] header refl

pub some_text : (text : List ℕ) → (BeginsBundle text → ⊥) → 0 < length text
some_text [] wrong = absurd (wrong begins_empty)
some_text (b ∷ bs) wrong = omega arith
