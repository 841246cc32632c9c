-- Texts of files and of bundles.
use Rattle.std.proofs.Common.{◌≡◌, inl, inr, ℕ, ◌<◌, ◌^◌, List, [], ◌∷◌, ◌++◌, length, arith, refl, sym, ap, ◌∙◌, append_assoc, codes}
use Rattle.std.specs.Fmt.{decimal}
use Rattle.std.proofs.lemmas.List.{append_cancel_left}
use Rattle.annex_base.specs.Lists.{Each}
use Rattle.annex_base.specs.Lines.{newline, space}
use Rattle.union_merge.specs.LineSet.{text_of}
use Rattle.branch_bundle.specs.Bundle.{number_text, file_text}
use Rattle.branch_bundle.specs.Parts.{IsFree, counted_file, file_of}
use Rattle.branch_bundle.proofs.FileLemmas.{Lines}
use Rattle.branch_bundle.proofs.NumberLemmas.{number_text-decimal, number_text-digits, number_text-injective, IsDigit}

abbrev pub word : List ℕ
word = codes "file "

pub file_text-file_of : (path : List ℕ) (lines : Lines) → file_text (path, lines) ≡ file_of path (text_of lines)
file_text-file_of path lines =
    append_assoc (word ++ number_text (length (text_of lines)) ++ space ∷ []) path (newline ∷ text_of lines)
    ∙ append_assoc (word ++ number_text (length (text_of lines))) (space ∷ []) (path ++ newline ∷ text_of lines)
    ∙ append_assoc word (number_text (length (text_of lines))) (space ∷ (path ++ newline ∷ text_of lines))

-- ---- what printing a file adds

pub put_file_is : (o0 o1 o2 o3 o4 o5 o6 path text : List ℕ) (lines : Lines) (n : ℕ)
    → o1 ≡ o0 ++ word → o2 ≡ o1 ++ decimal n → o3 ≡ o2 ++ space ∷ [] → o4 ≡ o3 ++ path → o5 ≡ o4 ++ newline ∷ [] → o6 ≡ o5 ++ text
    → n ≡ length text → n < 2 ^ 64 → text ≡ text_of lines → o6 ≡ o0 ++ file_text (path, lines)
put_file_is o0 o1 o2 o3 o4 o5 o6 path text lines n e1 e2 e3 e4 e5 e6 long small is =
    e6 ∙ ap (λ (w : List ℕ). w ++ text) (e5 ∙ ap (λ (w : List ℕ). w ++ newline ∷ []) (e4 ∙ ap (λ (w : List ℕ). w ++ path) (e3 ∙ ap (λ (w : List ℕ). w ++ space ∷ []) (e2 ∙ ap (λ (w : List ℕ). w ++ decimal n) e1))))
    ∙ regroup o0 word (decimal n) path text
    ∙ ap (λ (w : List ℕ). o0 ++ (word ++ (w ++ space ∷ (path ++ newline ∷ text)))) (sym (number_text-decimal n small) ∙ ap number_text long)
    ∙ ap (λ (w : List ℕ). o0 ++ file_of path w) is ∙ ap (λ (w : List ℕ). o0 ++ w) (sym (file_text-file_of path lines)) where
      regroup : (o w number path text : List ℕ) → (((((o ++ w) ++ number) ++ space ∷ []) ++ path) ++ newline ∷ []) ++ text ≡ o ++ (w ++ (number ++ space ∷ (path ++ newline ∷ text)))
      regroup o w number path text = simp append_assoc

-- ---- one way to take a text apart

-- a text has one first such byte
pub cut_same : (b : ℕ) (xs us ys vs : List ℕ) → IsFree b xs → IsFree b ys → xs ++ b ∷ us ≡ ys ++ b ∷ vs → (xs ≡ ys) × (us ≡ vs)
cut_same b [] us [] vs first second same = (refl, cc)
cut_same b [] us (y ∷ ys) vs first second same = let e : b ≡ y = cc in absurd (second (inl e))
cut_same b (x ∷ xs) us [] vs first second same = let e : b ≡ x = cc in absurd (first (inl e))
cut_same b (x ∷ xs) us (y ∷ ys) vs first second same =
    let head : x ≡ y = cc in
    let tail : xs ++ b ∷ us ≡ ys ++ b ∷ vs = cc in
    let rest = cut_same b xs us ys vs (λ among. first (inr among)) (λ among. second (inr among)) tail in
    (ap (λ (w : ℕ). w ∷ xs) head ∙ ap (λ (w : List ℕ). y ∷ w) rest.0, rest.1)

-- fronts of one length are one
pub front_same : (xs us ys vs : List ℕ) → length xs ≡ length ys → xs ++ us ≡ ys ++ vs → (xs ≡ ys) × (us ≡ vs)
front_same [] us [] vs long same = (refl, same)
front_same [] us (y ∷ ys) vs long same = absurd (omega (arith, long))
front_same (x ∷ xs) us [] vs long same = absurd (omega (arith, long))
front_same (x ∷ xs) us (y ∷ ys) vs long same =
    let head : x ≡ y = cc in
    let tail : xs ++ us ≡ ys ++ vs = cc in
    let short : length xs ≡ length ys = omega (arith, long) in
    let rest = front_same xs us ys vs short tail in
    (ap (λ (w : ℕ). w ∷ xs) head ∙ ap (λ (w : List ℕ). y ∷ w) rest.0, rest.1)

digits_free : (ds : List ℕ) → Each IsDigit ds → IsFree space ds
digits_free [] all among = among
digits_free (d ∷ ds) all among = elim among [ inl same ↦ omega (arith, same, all.0.0) | inr later ↦ digits_free ds all.1 later ]

pub number_free : (n : ℕ) → IsFree space (number_text n)
number_free n = digits_free (number_text n) (number_text-digits n)

pub word_same : (us vs : List ℕ) → word ++ us ≡ word ++ vs → us ≡ vs
word_same us vs same = append_cancel_left word us vs same

pub file_of-append : (path lines rest : List ℕ) → file_of path lines ++ rest ≡ word ++ (number_text (length lines) ++ space ∷ (path ++ newline ∷ (lines ++ rest)))
file_of-append path lines rest =
    append_assoc word (counted_file (length lines) path lines) rest
    ∙ ap (λ (w : List ℕ). word ++ w) (append_assoc (number_text (length lines)) (space ∷ (path ++ newline ∷ lines)) rest
    ∙ ap (λ (w : List ℕ). number_text (length lines) ++ space ∷ w) (append_assoc path (newline ∷ lines) rest))

pub counted_file_same : (m n : ℕ) (ps us qs vs : List ℕ) → IsFree newline ps → IsFree newline qs
    → number_text m ++ space ∷ (ps ++ newline ∷ us) ≡ number_text n ++ space ∷ (qs ++ newline ∷ vs) → (m ≡ n) × (ps ≡ qs) × (us ≡ vs)
counted_file_same m n ps us qs vs first second same =
    let front = cut_same space (number_text m) (ps ++ newline ∷ us) (number_text n) (qs ++ newline ∷ vs) (number_free m) (number_free n) same in
    let back = cut_same newline ps us qs vs first second front.1 in
    (number_text-injective m n front.0, back.0, back.1)

-- a text begins with one file at most
pub file_of-same : (p s a q t b : List ℕ) → IsFree newline p → IsFree newline q → file_of p s ++ a ≡ file_of q t ++ b → (p ≡ q) × (s ≡ t) × (a ≡ b)
file_of-same p s a q t b first second same =
    let h = counted_file_same (length s) (length t) p (s ++ a) q (t ++ b) first second (word_same _ _ (sym (file_of-append p s a) ∙ same ∙ file_of-append q t b)) in
    let rest = front_same s a t b h.0 h.2 in
    (h.1, rest.0, rest.1)
