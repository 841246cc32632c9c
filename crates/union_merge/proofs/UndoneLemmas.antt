-- Files that are put back as they were, and files without one.
use Rattle.std.proofs.Common.{◌≡◌, inl, inr, ℕ, Bool, true, false, cond, List, [], ◌∷◌, Option, Some, None, refl, sym, ap, subst, ◌∙◌}
use Rattle.std.specs.Map.{remove_entry}
use Rattle.std.specs.Ordering.{is_eq}
use Rattle.annex_base.specs.ByteOrder.{text_cmp, Before, IsInOrder}
use Rattle.annex_base.specs.Lists.{Member, Each}
use Rattle.annex_base.proofs.TextOrder.{below, tied, above, compared, text_cmp-itself, before_after, Before-other, Before-back, order_cons, order_head, order_tail, BeforeAll-member, BeforeAll-from_members}
use Rattle.union_merge.specs.Branch.{Files, IsBranch, file_at, lines_at, merged_file, or_none, with_file, without_file, with_back}
use Rattle.union_merge.specs.LineSet.{difference, union}
use Rattle.union_merge.specs.FileView.{files_of}
use Rattle.union_merge.proofs.SetLemmas.{Lines}
use Rattle.union_merge.proofs.BranchLemmas.{File, IsFile, Paths, file_at-missing, file_at-tied, file_at-above, lines_at-is_set, lines_at-with_file_same, with_file-tied, with_file-above, with_file-below}
use Rattle.union_merge.proofs.DifferenceLemmas.{difference-union}
use Rattle.union_merge.proofs.ViewLemmas.{Row, is_path}

-- ---- without a file

without_file-first : (files : Files) (path : List ℕ) (lines : Lines) → without_file ((path, lines) ∷ files) path ≡ files
without_file-first files path lines = let e = text_cmp-itself path in rw e refl

without_file-above : (f : File) (files : Files) (path : List ℕ) → Before f.0 path → without_file (f ∷ files) path ≡ f ∷ without_file files path
without_file-above f files path more = let e = before_after f.0 path more in rw e refl

Paths-without_file : (p path : List ℕ) (files : Files) → Member p (Paths (without_file files path)) → Member p (Paths files)
Paths-without_file p path [] among = among
Paths-without_file p path (f ∷ files) among = go (is_eq (text_cmp path f.0)) (Paths-without_file p path files) among
  where
    go : (b : Bool) → (Member p (Paths (without_file files path)) → Member p (Paths files)) → Member p (Paths (cond b files (f ∷ without_file files path))) → Member p (Paths (f ∷ files))
    go true rest among = inr among
    go false rest (inl first) = inl first
    go false rest (inr later) = inr (rest later)

without_file-in_order : (path : List ℕ) (files : Files) → IsInOrder (Paths files) → IsInOrder (Paths (without_file files path))
without_file-in_order path [] sorted = sorted
without_file-in_order path (f ∷ files) sorted = go (is_eq (text_cmp path f.0)) (without_file-in_order path files (order_tail f.0 (Paths files) sorted))
  where
    go : (b : Bool) → IsInOrder (Paths (without_file files path)) → IsInOrder (Paths (cond b files (f ∷ without_file files path)))
    go true rest = order_tail f.0 (Paths files) sorted
    go false rest = order_cons f.0 (Paths (without_file files path))
        (BeforeAll-from_members f.0 (Paths (without_file files path)) (λ p among. BeforeAll-member f.0 p (Paths files) (order_head f.0 (Paths files) sorted) (Paths-without_file p path files among)))
        rest

without_file-each : (path : List ℕ) (files : Files) → Each IsFile files → Each IsFile (without_file files path)
without_file-each path [] all = all
without_file-each path (f ∷ files) all = go (is_eq (text_cmp path f.0)) (without_file-each path files all.1)
  where
    go : (b : Bool) → Each IsFile (without_file files path) → Each IsFile (cond b files (f ∷ without_file files path))
    go true rest = all.1
    go false rest = (all.0, rest)

pub without_file-is_branch : (files : Files) (path : List ℕ) → IsBranch files → IsBranch (without_file files path)
without_file-is_branch files path is = record { sorted = without_file-in_order path files is.sorted; each = without_file-each path files is.each }

pub files_of-remove_entry : (es : List Row) (path : List ℕ) → files_of (remove_entry (is_path path) es) ≡ without_file (files_of es) path
files_of-remove_entry [] path = refl
files_of-remove_entry (e ∷ es) path =
    elim (is_eq (text_cmp path e.0.items)) as (λ b. files_of (cond b es (e ∷ remove_entry (is_path path) es)) ≡ cond b (files_of es) ((e.0.items, e.1) ∷ without_file (files_of es) path)) [
      | true ↦ refl
      | false ↦ ap (λ (w : Files). (e.0.items, e.1) ∷ w) (files_of-remove_entry es path)
    ]

-- ---- a file that is put back

with_back-above : (f : File) (files : Files) (path : List ℕ) (was : Option Lines) → Before f.0 path → with_back (f ∷ files) path was ≡ f ∷ with_back files path was
with_back-above f files path None more = without_file-above f files path more
with_back-above f files path (Some lines) more = with_file-above f files path lines more

first_below : (f : File) (files : Files) (path : List ℕ) → IsInOrder (Paths (f ∷ files)) → Before path f.0 → Member path (Paths (f ∷ files)) → ⊥
first_below f files path sorted less (inl same) = Before-other path f.0 less same
first_below f files path sorted less (inr later) = Before-back path f.0 less (BeforeAll-member f.0 path (Paths files) (order_head f.0 (Paths files) sorted) later)

pub put_back-whole : (files : Files) (path : List ℕ) (lines : Lines) → IsInOrder (Paths files) → with_back (with_file files path lines) path (file_at files path) ≡ files
put_back-whole [] path lines sorted = without_file-first [] path lines
put_back-whole (f ∷ files) path lines sorted = elim (compared path f.0) [
  | below less ↦
      ap (with_back (with_file (f ∷ files) path lines) path) (file_at-missing (f ∷ files) path (first_below f files path sorted less))
      ∙ ap (λ (w : Files). without_file w path) (with_file-below f files path lines less)
      ∙ without_file-first (f ∷ files) path lines
  | tied same ↦
      ap (with_back (with_file (f ∷ files) path lines) path) (file_at-tied f files path same)
      ∙ ap (λ (w : Files). with_file w path f.1) (with_file-tied f files path lines same)
      ∙ with_file-tied (f.0, lines) files path f.1 same
  | above more ↦
      ap (with_back (with_file (f ∷ files) path lines) path) (file_at-above f files path more)
      ∙ ap (λ (w : Files). with_back w path (file_at files path)) (with_file-above f files path lines more)
      ∙ with_back-above f (with_file files path lines) path (file_at files path) more
      ∙ ap (λ (w : Files). f ∷ w) (put_back-whole files path lines (order_tail f.0 (Paths files) sorted))
]

-- ---- lines that are taken off

pub new_lines-off : (files : Files) (path : List ℕ) (own lines : Lines) → IsBranch files → file_at files path ≡ Some own → difference lines own ≡ lines
    → with_file (merged_file files path lines) path (difference (lines_at (merged_file files path lines) path) lines) ≡ files
new_lines-off files path own lines is found lacks =
    let at : lines_at files path ≡ own = ap or_none found in
    let sorted : IsInOrder own = subst IsInOrder at (lines_at-is_set files path is.each).sorted in
    let all = union (lines_at files path) lines in
    ap (λ (w : Lines). with_file (with_file files path all) path (difference w lines)) (lines_at-with_file_same files path all)
    ∙ ap (λ (w : Lines). with_file (with_file files path all) path (difference (union w lines) lines)) at
    ∙ ap (with_file (with_file files path all) path) (difference-union own lines sorted lacks)
    ∙ sym (ap (with_back (with_file files path all) path) found)
    ∙ put_back-whole files path all is.sorted
