-- How a table of branches changes by an entry.
use Rattle.std.proofs.Common.{◌≡◌, ◌≢◌, inl, inr, ℕ, ◌<◌, not, List, [], true, ◌∷◌, length, set, slice_index_or, get_or-set_same, get_or-set_other, Some, refl, sym, ap, subst, ◌∙◌}
use Rattle.std.specs.BTreeMap.{is_at}
use Rattle.std.proofs.lemmas.Bool.Decides.{eqb_tells}
use Rattle.std.proofs.lemmas.List.Kept.{IsStrictlySortedBy-filter}
use Rattle.std.proofs.lemmas.Map.Text.{is_eq-slice_cmp}
use Rattle.annex_base.specs.ByteOrder.{text_cmp}
use Rattle.annex_base.specs.Lists.{Each}
use Rattle.annex_base.proofs.Conditions.{by_test, bytes_eq-true}
use Rattle.annex_base.proofs.Lists.{Each-filter}
use Rattle.annex_base.proofs.TextOrder.{order_nil, order_cons}
use Rattle.log_lines.specs.declared.entry.LogKind.{LogKind}
use Rattle.log_lines.specs.Newest.{current_lines, is_outdated}
use Rattle.union_merge.specs.LineSet.{IsLine, IsLineSet, union}
use Rattle.union_merge.specs.Branch.{Files, file_at, lines_at, with_file, merged_file}
use Rattle.run_data.specs.declared.entry.Entry.{Entry}
use Rattle.run_model.specs.Logs.{branch, branch_after}

abbrev Lines : Type 0
Lines = List (List ℕ)

-- ---- lines that are added

-- the laws of unions of sets of lines, as the lemmas take them
abbrev pub UnionsAreSets : Type 0
UnionsAreSets = (xs ys : Lines) → IsLineSet xs → IsLineSet ys → IsLineSet (union xs ys)

abbrev pub UnionsAssociate : Type 0
UnionsAssociate = (xs ys zs : Lines) → IsLineSet xs → IsLineSet ys → IsLineSet zs → union (union xs ys) zs ≡ union xs (union ys zs)

no_lines : IsLineSet []
no_lines = record { sorted = order_nil; each = tt }

one_line : (line : List ℕ) → IsLine line → IsLineSet (line ∷ [])
one_line line is = record { sorted = order_cons line [] tt order_nil; each = (is, tt) }

-- lines that are put into a set make it another one
union_set : UnionsAreSets → (xs ys : Lines) → IsLineSet xs → Each IsLine ys → IsLineSet (union xs ys)
union_set sets xs [] is all = is
union_set sets xs (y ∷ ys) is all = union_set sets (union xs (y ∷ [])) ys (sets xs (y ∷ []) is (one_line y all.0)) all.1

-- lines count once
union_once : UnionsAreSets → UnionsAssociate → (xs ys : Lines) → IsLineSet xs → Each IsLine ys → union xs (union [] ys) ≡ union xs ys
union_once sets groups xs [] is all = refl
union_once sets groups xs (y ∷ ys) is all =
    let one : IsLineSet (y ∷ []) = one_line y all.0 in
    let rest : IsLineSet (union [] ys) = union_set sets [] ys no_lines all.1 in
    ap (union xs) (sym (union_once sets groups (y ∷ []) ys one all.1))
    ∙ sym (groups xs (y ∷ []) (union [] ys) is one rest)
    ∙ union_once sets groups (union xs (y ∷ [])) ys (sets xs (y ∷ []) is one) all.1

pub merged_once : UnionsAreSets → UnionsAssociate → (files : Files) (path : List ℕ) (lines : Lines) → IsLineSet (lines_at files path) → Each IsLine lines
    → merged_file files path (union [] lines) ≡ merged_file files path lines
merged_once sets groups files path lines is all = ap (with_file files path) (union_once sets groups (lines_at files path) lines is all)

-- ---- a file that is compacted

pub current_set : (kind : LogKind) (lines : Lines) → IsLineSet lines → IsLineSet (current_lines kind lines)
current_set kind lines is = record {
  sorted = IsStrictlySortedBy-filter text_cmp (λ line. not (is_outdated kind lines line)) lines is.sorted;
  each = Each-filter IsLine (λ line. not (is_outdated kind lines line)) lines is.each;
}

same_path : (path other : List ℕ) → is_at (text_cmp path) other ≡ true → path ≡ other
same_path path other same = bytes_eq-true path other (sym (is_eq-slice_cmp path other) ∙ same)

-- a file that a branch has has a path
pub found_is_line : (files : Files) (path : List ℕ) (lines : Lines) → Each (λ f. IsLine f.0 × IsLineSet f.1) files → file_at files path ≡ Some lines → IsLine path
found_is_line [] path lines all found = absurd cc
found_is_line (f ∷ files) path lines all found = by_test (is_at (text_cmp path) f.0)
    (λ same. subst IsLine (sym (same_path path f.0 same)) all.0.0)
    (λ other. found_is_line files path lines all.1 (rw other at found))

-- ---- the branches

-- the branch of the entry's repository takes note of it
pub branch_noted : (branches : List Files) (i : ℕ) (b : Files) (past : List Entry) (e : Entry) (r : ℕ)
    → e.repo ≡ Some i → i < length branches → b ≡ branch_after (slice_index_or branches i []) e.kind e.lines
    → slice_index_or branches r [] ≡ branch past r → slice_index_or (set branches i b) r [] ≡ branch (e ∷ past) r
branch_noted branches i b past e r of_i within noted known = elim (eqb_tells i r) [
  | inl same ↦ rw (of_i, same.0) (subst (λ (q : ℕ). slice_index_or (set branches i b) q [] ≡ branch_after (branch past q) e.kind e.lines) same.1
      (get_or-set_same branches i b [] within ∙ noted ∙ ap (λ was. branch_after was e.kind e.lines) (subst (λ (q : ℕ). slice_index_or branches q [] ≡ branch past q) (sym same.1) known)))
  | inr apart ↦ rw (of_i, apart.0) (let ne : r ≢ i = λ h. apart.1 (sym h) in get_or-set_other branches i r b [] ne ∙ known)
]
