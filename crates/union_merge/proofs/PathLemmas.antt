-- Merges that go path by path, and add the lines that a file lacks.
use Rattle.std.proofs.Common.{◌≡◌, ◌≢◌, inl, inr, ℕ, List, [], ◌∷◌, refl, sym, ap, subst, ◌∙◌}
use Rattle.annex_base.specs.Lists.{Member, Each}
use Rattle.union_merge.specs.LineSet.{IsLine, IsLineSet, union, difference}
use Rattle.union_merge.specs.Branch.{Files, IsBranch, lines_at, with_file, merged_file, with_some, with_new_lines, merge_by_path, merged_branch}
use Rattle.union_merge.proofs.SetLemmas.{Lines}
use Rattle.union_merge.proofs.BranchLemmas.{IsFile, Paths, lines_at-tied, lines_at-other, lines_at-missing, lines_at-is_set, Paths-with_file, with_file-old, merged_file-is_branch, first_apart, tail-is_branch, same_content, path_of-line}
use Rattle.union_merge.proofs.MergeLemmas.{same, other, is_same, lines_at-merged_file_same, lines_at-merged_file_other, Member-merged_file, merged_file-old}
use Rattle.union_merge.proofs.DifferenceLemmas.{difference-is_set, difference-member, union-difference}

-- ---- one path

sorted_at : (files : Files) (path : List ℕ) → IsBranch files → IsLineSet (lines_at files path)
sorted_at files path is = lines_at-is_set files path is.each

with_some-is_branch : (files : Files) (path : List ℕ) (new : Lines) → IsBranch files → IsLine path → IsLineSet new → IsBranch (with_some files path new)
with_some-is_branch files path [] is line set = is
with_some-is_branch files path (z ∷ new) is line set = merged_file-is_branch files path (z ∷ new) is line set

pub with_new_lines-is_branch : (files : Files) (path : List ℕ) (lines : Lines) → IsBranch files → IsLine path → IsLineSet lines → IsBranch (with_new_lines files path lines)
with_new_lines-is_branch files path lines is line set =
    with_some-is_branch files path (difference lines (lines_at files path)) is line (difference-is_set lines (lines_at files path) set)

with_some-same : (files : Files) (path : List ℕ) (new : Lines) → lines_at (with_some files path new) path ≡ union (lines_at files path) new
with_some-same files path [] = refl
with_some-same files path (z ∷ new) = lines_at-merged_file_same files path (z ∷ new)

with_some-other : (files : Files) (path p : List ℕ) (new : Lines) → (p ≡ path → ⊥) → lines_at (with_some files path new) p ≡ lines_at files p
with_some-other files path p [] apart = refl
with_some-other files path p (z ∷ new) apart = lines_at-merged_file_other files path p (z ∷ new) apart

-- the path has the lines of both, and any other path those that it had
pub lines_at-with_new_lines : (files : Files) (path : List ℕ) (lines : Lines) → IsBranch files → lines_at (with_new_lines files path lines) path ≡ union (lines_at files path) lines
lines_at-with_new_lines files path lines is =
    with_some-same files path (difference lines (lines_at files path)) ∙ union-difference (lines_at files path) lines (sorted_at files path is).sorted

pub lines_at-with_new_lines_other : (files : Files) (path p : List ℕ) (lines : Lines) → (p ≡ path → ⊥) → lines_at (with_new_lines files path lines) p ≡ lines_at files p
lines_at-with_new_lines_other files path p lines apart = with_some-other files path p (difference lines (lines_at files path)) apart

-- ---- each path

pub merge_by_path-is_branch : (xs ys : Files) → IsBranch xs → Each IsFile ys → IsBranch (merge_by_path xs ys)
merge_by_path-is_branch xs [] is all = is
merge_by_path-is_branch xs (f ∷ ys) is all = merge_by_path-is_branch (with_new_lines xs f.0 f.1) ys (with_new_lines-is_branch xs f.0 f.1 is all.0.0 all.0.1) all.1

pub lines_at-merge_by_path : (p : List ℕ) (xs ys : Files) → IsBranch xs → IsBranch ys → lines_at (merge_by_path xs ys) p ≡ union (lines_at xs p) (lines_at ys p)
lines_at-merge_by_path p xs [] first second = refl
lines_at-merge_by_path p xs (f ∷ ys) first second =
    lines_at-merge_by_path p (with_new_lines xs f.0 f.1) ys (with_new_lines-is_branch xs f.0 f.1 first second.each.0.0 second.each.0.1) (tail-is_branch f ys second)
    ∙ elim (is_same p f.0) [
      | same e ↦
          ap (λ (w : Lines). union w (lines_at ys p)) (ap (lines_at (with_new_lines xs f.0 f.1)) e ∙ lines_at-with_new_lines xs f.0 f.1 first ∙ ap (λ (w : List ℕ). union (lines_at xs w) f.1) (sym e))
          ∙ ap (union (union (lines_at xs p) f.1)) (lines_at-missing ys p (λ among. first_apart f ys second (subst (λ w. Member w (Paths ys)) e among)))
          ∙ ap (union (lines_at xs p)) (sym (lines_at-tied f ys p e))
      | other far ↦
          ap (λ (w : Lines). union w (lines_at ys p)) (lines_at-with_new_lines_other xs f.0 p f.1 far)
          ∙ ap (union (lines_at xs p)) (sym (lines_at-other f ys p far))
    ]

-- ---- where no file is empty, it is the whole merge

nothing_new : (files : Files) (path : List ℕ) (z : List ℕ) (lines : Lines) → IsBranch files → IsLine path → IsLineSet (z ∷ lines) → difference (z ∷ lines) (lines_at files path) ≡ [] → files ≡ merged_file files path (z ∷ lines)
nothing_new files path z lines is line set none =
    same_content files (merged_file files path (z ∷ lines)) is (merged_file-is_branch files path (z ∷ lines) is line set)
    (λ p among. with_file-old p path files (union (lines_at files path) (z ∷ lines)) among)
    (λ p among. elim (Paths-with_file p path files (union (lines_at files path) (z ∷ lines)) among) [
      | inl here ↦ subst (λ w. Member w (Paths files)) (sym here) (path_of-line files path z (known z (inl refl)))
      | inr old ↦ old
    ])
    (λ p w among. merged_file-old p w path files (z ∷ lines) among)
    (λ p w among. elim (Member-merged_file p w path files (z ∷ lines) among) [
      | inl old ↦ old
      | inr new ↦ subst (λ q. Member w (lines_at files q)) (sym new.0) (known w new.1)
    ]) where
      known : (w : List ℕ) → Member w (z ∷ lines) → Member w (lines_at files path)
      known w among = elim (difference-member w (z ∷ lines) (lines_at files path) among) [
        | inl new ↦ absurd (subst (Member w) none new)
        | inr old ↦ old
      ]

some_new : (files : Files) (path : List ℕ) (lines new : Lines) → IsBranch files → difference lines (lines_at files path) ≡ new → new ≢ [] → with_some files path new ≡ merged_file files path lines
some_new files path lines [] is e some = absurd (some refl)
some_new files path lines (z ∷ new) is e some =
    ap (with_file files path) (ap (union (lines_at files path)) (sym e) ∙ union-difference (lines_at files path) lines (sorted_at files path is).sorted)

with_new_lines-is : (files : Files) (path : List ℕ) (lines : Lines) → IsBranch files → IsLine path → IsLineSet lines → lines ≢ [] → with_new_lines files path lines ≡ merged_file files path lines
with_new_lines-is files path [] is line set some = absurd (some refl)
with_new_lines-is files path (z ∷ lines) is line set some = go (difference (z ∷ lines) (lines_at files path)) refl
  where
    go : (new : Lines) → difference (z ∷ lines) (lines_at files path) ≡ new → with_some files path new ≡ merged_file files path (z ∷ lines)
    go [] e = nothing_new files path z lines is line set e
    go (w ∷ new) e = some_new files path (z ∷ lines) (w ∷ new) is e (λ none. cc)

pub merge_by_path-whole : (xs ys : Files) → IsBranch xs → Each IsFile ys → Each (λ f. f.1 ≢ []) ys → merge_by_path xs ys ≡ merged_branch xs ys
merge_by_path-whole xs [] is all some = refl
merge_by_path-whole xs (f ∷ ys) is all some =
    ap (λ (w : Files). merge_by_path w ys) (with_new_lines-is xs f.0 f.1 is all.0.0 all.0.1 some.0)
    ∙ merge_by_path-whole (merged_file xs f.0 f.1) ys (merged_file-is_branch xs f.0 f.1 is all.0.0 all.0.1) all.1 some.1
