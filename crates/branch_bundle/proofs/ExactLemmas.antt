-- Bundles and branches are one to one, and a text has one place at which it goes wrong.
use Rattle.std.proofs.Common.{◌≡◌, inl, inr, ℕ, ◌+◌, ◌<◌, ◌≤◌, List, [], ◌∷◌, ◌++◌, take, drop, arith, refl, sym, ap, subst, ◌∙◌, append_assoc, take-append-drop, take-take}
use Rattle.std.specs.List.{flat_map}
use Rattle.std.proofs.lemmas.List.{append_cancel_left}
use Rattle.std.proofs.lemmas.Bool.{cases_lt}
use Rattle.annex_base.specs.Lists.{Each}
use Rattle.union_merge.specs.LineSet.{set_of, text_of}
use Rattle.union_merge.specs.Branch.{Files}
use Rattle.branch_bundle.specs.Bundle.{IsByte, file_text, IsBundle, BeginsBundle, IsFirstWrong}
use Rattle.branch_bundle.proofs.FileLemmas.{ReadsBack, File, IsFile}
use Rattle.annex_base.proofs.Lists.{Each-append, Each-left, Each-right}
use Rattle.branch_bundle.proofs.TextLemmas.{file_text-file_of, file_of-append, file_of-same}
use Rattle.branch_bundle.proofs.BeginLemmas.{header}

-- ---- one branch

no_files : (f : File) (files : Files) → [] ≡ file_text f ++ flat_map file_text files → ⊥
no_files f files e = let h = e ∙ ap (λ (w : List ℕ). w ++ flat_map file_text files) (file_text-file_of f.0 f.1) ∙ file_of-append f.0 (text_of f.1) (flat_map file_text files) in cc

files_same : ReadsBack → (xs ys : Files) → Each IsFile xs → Each IsFile ys → flat_map file_text xs ≡ flat_map file_text ys → xs ≡ ys
files_same back [] [] first second same = refl
files_same back [] (g ∷ ys) first second same = absurd (no_files g ys same)
files_same back (f ∷ xs) [] first second same = absurd (no_files f xs (sym same))
files_same back (f ∷ xs) (g ∷ ys) first second same =
    let h = file_of-same f.0 (text_of f.1) (flat_map file_text xs) g.0 (text_of g.1) (flat_map file_text ys) first.0.0.single second.0.0.single
    (ap (λ (w : List ℕ). w ++ flat_map file_text xs) (sym (file_text-file_of f.0 f.1)) ∙ same ∙ ap (λ (w : List ℕ). w ++ flat_map file_text ys) (file_text-file_of g.0 g.1)) in
    let lines : f.1 ≡ g.1 = sym (back f.1 first.0.1) ∙ ap set_of h.1 ∙ back g.1 second.0.1 in
    ap (λ (p : List ℕ). (p, f.1) ∷ xs) h.0 ∙ ap (λ (t : List (List ℕ)). (g.0, t) ∷ xs) lines ∙ ap (λ (w : Files). g ∷ w) (files_same back xs ys first.1 second.1 h.2)

pub one_branch : ReadsBack → (text : List ℕ) (xs ys : Files) → IsBundle text xs → IsBundle text ys → xs ≡ ys
one_branch back text xs ys first second =
    files_same back xs ys first.branch.each second.branch.each (append_cancel_left header (flat_map file_text xs) (flat_map file_text ys) (sym first.spelled ∙ second.spelled))

-- ---- one place

begins_front : (xs ys : List ℕ) → Each IsByte ys → BeginsBundle (xs ++ ys) → BeginsBundle xs
begins_front xs ys bytes begins = record {
  files = begins.files;
  rest = ys ++ begins.rest;
  bytes = Each-append IsByte ys begins.rest bytes begins.bytes;
  bundle = subst (λ w. IsBundle w begins.files) (append_assoc xs ys begins.rest) begins.bundle;
}

shorter_front : (text : List ℕ) (m n : ℕ) → m ≤ n → (ys : List ℕ) × (take n text ≡ take m text ++ ys) × ((zs : List ℕ) × (text ≡ (take m text ++ ys) ++ zs))
shorter_front text m n below =
    let front = take n text in
    (drop m front, sym (take-append-drop m front) ∙ ap (λ (w : List ℕ). w ++ drop m front) (take-take m n text below), (drop n text, sym (take-append-drop n text) ∙ ap (λ (w : List ℕ). w ++ drop n text) (sym (take-append-drop m front) ∙ ap (λ (w : List ℕ). w ++ drop m front) (take-take m n text below))))

pub begins_shorter : (text : List ℕ) (m n : ℕ) → Each IsByte text → m ≤ n → BeginsBundle (take n text) → BeginsBundle (take m text)
begins_shorter text m n bytes below begins =
    let h = shorter_front text m n below in
    begins_front (take m text) h.0 (Each-right IsByte (take m text) h.0 (Each-left IsByte (take m text ++ h.0) h.2.0 (subst (Each IsByte) h.2.1 bytes))) (subst BeginsBundle h.1 begins)

not_later : (text : List ℕ) (p q : ℕ) → Each IsByte text → IsFirstWrong text p → IsFirstWrong text q → p < q → ⊥
not_later text p q bytes first second later = first.wrong (omega (arith, later, second.inside)) (begins_shorter text (p + 1) q bytes (omega (arith, later)) second.before)

pub one_place : (text : List ℕ) (p q : ℕ) → Each IsByte text → IsFirstWrong text p → IsFirstWrong text q → p ≡ q
one_place text p q bytes first second = elim (cases_lt p q) [
  | inl later ↦ absurd (not_later text p q bytes first second later)
  | inr less ↦ elim (cases_lt q p) [
    | inl later ↦ absurd (not_later text q p bytes second first later)
    | inr more ↦ omega (arith, less, more)
  ]
]
