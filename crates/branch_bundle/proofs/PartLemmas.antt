-- Taking the parts of a bundle's text apart.
use Rattle.std.proofs.Common.{◌≡◌, inl, inr, ℕ, suc, ◌+◌, ◌<◌, ◌≤◌, ◌^◌, true, false, List, [], ◌∷◌, ◌++◌, length, take, drop, not, Option, Some, None, arith, refl, sym, ap, subst, ◌∙◌, length-append, take-append-drop}
use Rattle.std.specs.Bool.{◌==◌}
use Rattle.std.specs.Borrow.{Bor}
use Rattle.std.specs.Option.{MatchOption}
use Rattle.std.specs.List.{prefix_len}
use Rattle.std.specs.Cmp.Lexicographic.{pointwise}
use Rattle.std.specs.Bool.{nat_eq}
use Rattle.std.proofs.lemmas.Bool.{true≢false}
use Rattle.std.proofs.lemmas.Bool.Decides.{eqb_tells}
use Rattle.std.proofs.lemmas.Slice.Eq.{bytes_eq-Decides}
use Rattle.std.proofs.lemmas.List.{nil_from_length}
use Rattle.std.proofs.lemmas.List.{length-take-le}
use Rattle.std.proofs.lemmas.Option.{none-some}
use Rattle.std.proofs.Math.Seq.{take-append_seam}
use Rattle.annex_base.specs.Decimal.{number_of}
use Rattle.annex_base.specs.Lists.{Member}
use Rattle.annex_base.proofs.DecimalLemmas.{number_is, number_some}
use Rattle.annex_base.specs.Lines.{newline, space}
use Rattle.annex_base.proofs.Lists.{Member-append_right}
use Rattle.union_merge.specs.LineSet.{IsLine}
use Rattle.branch_bundle.specs.Bundle.{number_text}
use Rattle.branch_bundle.specs.Parts.{IsFree, IsCut, file_of}
use Rattle.branch_bundle.proofs.NumberLemmas.{number_text-decimal}
use Rattle.branch_bundle.proofs.TextLemmas.{word, cut_same, number_free, word_same, file_of-append, counted_file_same}

-- ---- a prefix

pub stripped : (text prefix : List ℕ) (r : Option (Bor (List ℕ)))
    → MatchOption r (pointwise nat_eq (take (length prefix) text) prefix ≡ false) (λ x. (pointwise nat_eq (take (length prefix) text) prefix ≡ true) × (x.now ≡ drop (length prefix) text) × (length x.now + length prefix ≡ length text))
    → MatchOption r ((rest : List ℕ) → text ≡ prefix ++ rest → ⊥) (λ rest. text ≡ prefix ++ rest.now)
stripped text prefix None other = λ rest is.
    true≢false (sym ((bytes_eq-Decides (take (length prefix) text) prefix).1 (ap (take (length prefix)) is ∙ take-append_seam prefix rest)) ∙ other)
stripped text prefix (Some x) h =
    sym (take-append-drop (length prefix) text) ∙ ap (λ (w : List ℕ). w ++ drop (length prefix) text) ((bytes_eq-Decides (take (length prefix) text) prefix).0 h.0)
    ∙ ap (λ (w : List ℕ). prefix ++ w) (sym h.1)

-- ---- the first such byte

abbrev pub len_before : ℕ → List ℕ → ℕ
len_before b text = prefix_len (λ x. not (x == b)) text

len_before-at : (b x : ℕ) (xs : List ℕ) → (x == b) ≡ true → len_before b (x ∷ xs) ≡ 0
len_before-at b x xs is = rw is refl

len_before-other : (b x : ℕ) (xs : List ℕ) → (x == b) ≡ false → len_before b (x ∷ xs) ≡ suc (len_before b xs)
len_before-other b x xs other = rw other (omega arith)

pub len_before-le : (b : ℕ) (xs : List ℕ) → len_before b xs ≤ length xs
len_before-le b [] = omega arith
len_before-le b (x ∷ xs) = elim (eqb_tells x b) [
  | inl is ↦ omega (arith, len_before-at b x xs is.0)
  | inr other ↦ omega (arith, len_before-other b x xs other.0, len_before-le b xs)
]

pub before_free : (b : ℕ) (xs : List ℕ) → IsFree b (take (len_before b xs) xs)
before_free b [] among = among
before_free b (x ∷ xs) among = elim (eqb_tells x b) [
  | inl is ↦ subst (λ n. Member b (take n (x ∷ xs))) (len_before-at b x xs is.0) among
  | inr other ↦ elim (subst (λ n. Member b (take n (x ∷ xs))) (len_before-other b x xs other.0) among) [
    | inl same ↦ other.1 (sym same)
    | inr later ↦ before_free b xs later
  ]
]

pub none_free : (b : ℕ) (xs : List ℕ) → drop (len_before b xs) xs ≡ [] → IsFree b xs
none_free b xs none among = before_free b xs (subst (Member b) (sym (sym (append_nil_right (take (len_before b xs) xs)) ∙ ap (λ (w : List ℕ). take (len_before b xs) xs ++ w) (sym none) ∙ take-append-drop (len_before b xs) xs)) among) where
  append_nil_right : (xs : List ℕ) → xs ++ [] ≡ xs
  append_nil_right [] = refl
  append_nil_right (x ∷ xs) = ap (λ (w : List ℕ). x ∷ w) (append_nil_right xs)

found_byte : (b y : ℕ) (ys xs : List ℕ) → drop (len_before b xs) xs ≡ y ∷ ys → y ≡ b
found_byte b y ys [] is = absurd cc
found_byte b y ys (x ∷ xs) is = elim (eqb_tells x b) [
  | inl at ↦ let e : x ∷ xs ≡ y ∷ ys = subst (λ n. drop n (x ∷ xs) ≡ y ∷ ys) (len_before-at b x xs at.0) is in let head : x ≡ y = cc in sym head ∙ at.1
  | inr other ↦ found_byte b y ys xs (subst (λ n. drop n (x ∷ xs) ≡ y ∷ ys) (len_before-other b x xs other.0) is)
]

pub cut_is : (b y : ℕ) (ys xs : List ℕ) → drop (len_before b xs) xs ≡ y ∷ ys → IsCut b xs (take (len_before b xs) xs) ys
cut_is b y ys xs is = record {
  spelled = sym (take-append-drop (len_before b xs) xs) ∙ ap (λ (w : List ℕ). take (len_before b xs) xs ++ w) (is ∙ ap (λ (w : ℕ). w ∷ ys) (found_byte b y ys xs is));
  free = before_free b xs;
}

-- ---- the first file

after_word : (text rest path lines more : List ℕ) → text ≡ word ++ rest → text ≡ file_of path lines ++ more → rest ≡ number_text (length lines) ++ space ∷ (path ++ newline ∷ (lines ++ more))
after_word text rest path lines more is file = word_same _ _ (sym is ∙ file ∙ file_of-append path lines more)

pub no_number : (text rest : List ℕ) → text ≡ word ++ rest → IsFree space rest → (path lines more : List ℕ) → IsLine path → text ≡ file_of path lines ++ more → ⊥
no_number text rest is free path lines more line file =
    free (subst (Member space) (sym (after_word text rest path lines more is file)) (Member-append_right (number_text (length lines)) (space ∷ (path ++ newline ∷ (lines ++ more))) space (inl refl)))

-- the number and what follows it are those of the file
number_parts : (text rest number after path lines more : List ℕ) → text ≡ word ++ rest → IsCut space rest number after → text ≡ file_of path lines ++ more
    → (number ≡ number_text (length lines)) × (after ≡ path ++ newline ∷ (lines ++ more))
number_parts text rest number after path lines more is cut file =
    cut_same space number after (number_text (length lines)) (path ++ newline ∷ (lines ++ more)) cut.free (number_free (length lines)) (sym cut.spelled ∙ after_word text rest path lines more is file)

lines_short : (text path lines more : List ℕ) → text ≡ file_of path lines ++ more → length lines ≤ length text
lines_short text path lines more file =
    omega (arith, ap length (file ∙ file_of-append path lines more), length-append (number_text (length lines)) (space ∷ (path ++ newline ∷ (lines ++ more))), length-append path (newline ∷ (lines ++ more)), length-append lines more)

pub no_count : (text rest number after : List ℕ) → text ≡ word ++ rest → IsCut space rest number after → number_of number ≡ None → length text < 2 ^ 64
    → (path lines more : List ℕ) → IsLine path → text ≡ file_of path lines ++ more → ⊥
no_count text rest number after is cut none short path lines more line file =
    let small : length lines < 2 ^ 64 = omega (arith, short, lines_short text path lines more file) in
    let same = number_parts text rest number after path lines more is cut file in
    none-some (length lines) (sym none ∙ ap number_of (same.0 ∙ number_text-decimal (length lines) small) ∙ number_is (length lines) small)

pub no_path : (text rest number after : List ℕ) → text ≡ word ++ rest → IsCut space rest number after → IsFree newline after
    → (path lines more : List ℕ) → IsLine path → text ≡ file_of path lines ++ more → ⊥
no_path text rest number after is cut free path lines more line file =
    free (subst (Member newline) (sym (number_parts text rest number after path lines more is cut file).1) (Member-append_right path (newline ∷ (lines ++ more)) newline (inl refl)))

-- the count, the path and what follows it are those of the file
pub path_parts : (text rest number after front back : List ℕ) (count : ℕ) → text ≡ word ++ rest → IsCut space rest number after → number_of number ≡ Some count → IsCut newline after front back
    → (path lines more : List ℕ) → IsLine path → text ≡ file_of path lines ++ more → (count ≡ length lines) × (front ≡ path) × (back ≡ lines ++ more)
path_parts text rest number after front back count is cut some second path lines more line file =
    let small = number_some number count some in
    let h = counted_file_same count (length lines) front back path (lines ++ more) second.free line.single
    (ap (λ (w : List ℕ). w ++ space ∷ (front ++ newline ∷ back)) (number_text-decimal count small.1 ∙ sym small.0) ∙ ap (λ (w : List ℕ). number ++ space ∷ w) (sym second.spelled)
    ∙ sym cut.spelled ∙ after_word text rest path lines more is file) in
    (h.0, h.1, h.2)

pub no_empty : (text rest number after front back : List ℕ) (count : ℕ) → text ≡ word ++ rest → IsCut space rest number after → number_of number ≡ Some count → IsCut newline after front back → length front ≡ 0
    → (path lines more : List ℕ) → IsLine path → text ≡ file_of path lines ++ more → ⊥
no_empty text rest number after front back count is cut some second none path lines more line file =
    line.some (nil_from_length path (ap length (sym (path_parts text rest number after front back count is cut some second path lines more line file).1) ∙ none))

pub no_room : (text rest number after front back : List ℕ) (count : ℕ) → text ≡ word ++ rest → IsCut space rest number after → number_of number ≡ Some count → IsCut newline after front back → length back < count
    → (path lines more : List ℕ) → IsLine path → text ≡ file_of path lines ++ more → ⊥
no_room text rest number after front back count is cut some second short path lines more line file =
    let h = path_parts text rest number after front back count is cut some second path lines more line file in
    omega (arith, short, h.0, ap length h.2, length-append lines more)

pub file_found : (text rest number after front back : List ℕ) (count : ℕ) → text ≡ word ++ rest → IsCut space rest number after → number_of number ≡ Some count → IsCut newline after front back → count ≤ length back
    → text ≡ file_of front (take count back) ++ drop count back
file_found text rest number after front back count is cut some second room =
    let small = number_some number count some in
    let long : length (take count back) ≡ count = length-take-le count back room in
    is
    ∙ ap (λ (w : List ℕ). word ++ w) (cut.spelled
    ∙ ap (λ (w : List ℕ). w ++ space ∷ after) (small.0 ∙ sym (number_text-decimal count small.1) ∙ ap number_text (sym long))
    ∙ ap (λ (w : List ℕ). number_text (length (take count back)) ++ space ∷ w) (second.spelled ∙ ap (λ (w : List ℕ). front ++ newline ∷ w) (sym (take-append-drop count back))))
    ∙ sym (file_of-append front (take count back) (drop count back))

pub length_none : (front : List ℕ) → true ≡ (length front == 0) → length front ≡ 0
length_none [] e = refl
length_none (b ∷ bs) e = elim (eqb_tells (length (b ∷ bs)) 0) [ inl is ↦ is.1 | inr other ↦ absurd (true≢false (e ∙ other.0)) ]

pub is_line : (front : List ℕ) → IsFree newline front → false ≡ (length front == 0) → IsLine front
is_line [] free e = absurd (true≢false (sym e))
is_line (b ∷ bs) free e = record { some = λ none. cc; single = free }

-- what is told of the parts is a file and what follows it
pub found_parts : (text rest number after front back lines more : List ℕ) (count : ℕ) → text ≡ word ++ rest → IsCut space rest number after → number_of number ≡ Some count → IsCut newline after front back → count ≤ length back
    → false ≡ (length front == 0) → lines ≡ take count back → more ≡ drop count back → IsLine front × (text ≡ file_of front lines ++ more)
found_parts text rest number after front back lines more count is cut some second room other one two = (
  is_line front second.free other,
  file_found text rest number after front back count is cut some second room ∙ ap (λ (w : List ℕ). file_of front w ++ drop count back) (sym one) ∙ ap (λ (w : List ℕ). file_of front lines ++ w) (sym two),
)
