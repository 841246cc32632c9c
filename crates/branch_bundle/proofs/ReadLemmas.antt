-- Reading the files of a bundle, one after the other.
use Rattle.std.proofs.Common.{◌≡◌, inl, inr, ℕ, List, [], ◌∷◌, ◌++◌, refl, sym, ap, subst, ◌∙◌, append_assoc}
use Rattle.std.specs.List.{flat_map}
use Rattle.std.proofs.lemmas.List.{append-nil}
use Rattle.annex_base.specs.ByteOrder.{text_cmp, Before, IsInOrder}
use Rattle.annex_base.specs.Lists.{Member, Each}
use Rattle.union_merge.specs.LineSet.{IsLine, set_of, text_of}
use Rattle.union_merge.specs.Branch.{Files, IsBranch, with_file}
use Rattle.branch_bundle.specs.Bundle.{file_text}
use Rattle.branch_bundle.specs.Parts.{file_of}
use Rattle.branch_bundle.proofs.FileLemmas.{ReadsBack, Lines, File, IsFile, Paths, with_file-above}
use Rattle.annex_base.proofs.TextOrder.{order_head, order_tail, BeforeAll-member}
use Rattle.branch_bundle.proofs.TextLemmas.{file_text-file_of, file_of-append, file_of-same}

-- ---- a file at the end

pub with_file-end : (files : Files) (path : List ℕ) (lines : Lines) → ((p : List ℕ) → Member p (Paths files) → Before p path) → with_file files path lines ≡ files ++ (path, lines) ∷ []
with_file-end [] path lines below = refl
with_file-end (f ∷ files) path lines below =
    with_file-above f files path lines (below f.0 (inl refl)) ∙ ap (λ (w : Files). f ∷ w) (with_file-end files path lines (λ p among. below p (inr among)))

middle_path : (f : File) (files tail : Files) → Member f.0 (Paths (files ++ f ∷ tail))
middle_path f [] tail = inl refl
middle_path f (g ∷ files) tail = inr (middle_path f files tail)

pub before_middle : (f : File) (files tail : Files) → IsInOrder (Paths (files ++ f ∷ tail)) → (p : List ℕ) → Member p (Paths files) → Before p f.0
before_middle f [] tail sorted p among = absurd among
before_middle f (g ∷ files) tail sorted p among = elim among [
  | inl first ↦ ap (λ w. text_cmp w f.0) first ∙ BeforeAll-member g.0 f.0 (Paths (files ++ f ∷ tail)) (order_head g.0 (Paths (files ++ f ∷ tail)) sorted) (middle_path f files tail)
  | inr later ↦ before_middle f files tail (order_tail g.0 (Paths (files ++ f ∷ tail)) sorted) p later
]

middle_file : (f : File) (files tail : Files) → Each IsFile (files ++ f ∷ tail) → IsFile f
middle_file f [] tail all = all.0
middle_file f (g ∷ files) tail all = middle_file f files tail all.1

-- ---- one file more

-- the files that were read, and those that a text has from here on, are the whole
abbrev pub ReadsOn : Files → List ℕ → List ℕ → Type 0
ReadsOn branch rest text = (files : Files) → IsBranch files → text ≡ flat_map file_text files → (tail : Files) × (files ≡ branch ++ tail) × (rest ≡ flat_map file_text tail)

no_file : (path lines more : List ℕ) → [] ≡ file_of path lines ++ more → ⊥
no_file path lines more e = let h = e ∙ file_of-append path lines more in cc

pub reads_on-more : ReadsBack → (branch next : Files) (text rest path lines more : List ℕ) (set : Lines) → ReadsOn branch rest text → IsLine path → rest ≡ file_of path lines ++ more → set ≡ set_of lines → next ≡ with_file branch path set → ReadsOn next more text
reads_on-more back branch next text rest path lines more set so_far line is sets after = λ files branch_of spelled.
    let h = so_far files branch_of spelled in step files branch_of h.0 h.1 h.2 where
      step : (files : Files) → IsBranch files → (tail : Files) → files ≡ branch ++ tail → rest ≡ flat_map file_text tail → (tail : Files) × (files ≡ next ++ tail) × (more ≡ flat_map file_text tail)
      step files branch_of [] whole none = absurd (no_file path lines more (sym none ∙ is))
      step files branch_of (f ∷ tail) whole some =
          let all = subst IsBranch whole branch_of in
          let file = middle_file f branch tail all.each in
          let same = file_of-same path lines more f.0 (text_of f.1) (flat_map file_text tail) line.single file.0.single
          (sym is ∙ some ∙ ap (λ (w : List ℕ). w ++ flat_map file_text tail) (file_text-file_of f.0 f.1)) in
          let lines_are : set ≡ f.1 = sets ∙ ap set_of same.1 ∙ back f.1 file.1 in
          let grown : next ≡ branch ++ f ∷ [] =
          after ∙ ap (λ (w : List ℕ). with_file branch w set) same.0 ∙ ap (with_file branch f.0) lines_are
          ∙ with_file-end branch f.0 f.1 (before_middle f branch tail all.sorted) in
          (tail, whole ∙ sym (append_assoc branch (f ∷ []) tail) ∙ ap (λ (w : Files). w ++ tail) (sym grown), same.2)

pub reads_on-all : (branch files : Files) (text rest : List ℕ) → ReadsOn branch rest text → ((path lines more : List ℕ) → IsLine path → rest ≡ file_of path lines ++ more → ⊥) → IsBranch files → text ≡ flat_map file_text files → branch ≡ files
reads_on-all branch files text rest so_far none branch_of spelled =
    let h = so_far files branch_of spelled in step h.0 h.1 h.2 where
      step : (tail : Files) → files ≡ branch ++ tail → rest ≡ flat_map file_text tail → branch ≡ files
      step [] whole end = sym (whole ∙ append-nil branch)
      step (f ∷ tail) whole some =
          absurd (none f.0 (text_of f.1) (flat_map file_text tail) (middle_file f branch tail (subst IsBranch whole branch_of).each).0
          (some ∙ ap (λ (w : List ℕ). w ++ flat_map file_text tail) (file_text-file_of f.0 f.1)))
