-- Lines that are added to a file of a branch, and a file that is compacted.
use Rattle.std.proofs.Common.{◌≡◌, List, ℕ, [], true, ◌∷◌, Some, refl, sym, ap, subst, ◌∙◌}
use Rattle.std.specs.BTreeMap.{is_at}
use Rattle.std.proofs.lemmas.Map.Text.{is_eq-slice_cmp}
use Rattle.annex_base.specs.ByteOrder.{text_cmp}
use Rattle.annex_base.specs.Lists.{Each}
use Rattle.annex_base.proofs.Conditions.{by_test, bytes_eq-true}
use Rattle.annex_base.proofs.TextOrder.{order_nil, order_cons}
use Rattle.union_merge.specs.LineSet.{IsLine, IsLineSet, union}
use Rattle.union_merge.specs.Branch.{Files, file_at, lines_at, with_file, merged_file}

abbrev Lines : Type 0
Lines = List (List ℕ)

-- ---- lines that are added

-- the laws of unions of sets of lines, as the lemmas take them
abbrev pub UnionsAreSets : Type 0
UnionsAreSets = (xs ys : Lines) → IsLineSet xs → IsLineSet ys → IsLineSet (union xs ys)

abbrev pub UnionsAssociate : Type 0
UnionsAssociate = (xs ys zs : Lines) → IsLineSet xs → IsLineSet ys → IsLineSet zs → union (union xs ys) zs ≡ union xs (union ys zs)

no_lines : IsLineSet []
no_lines = record { sorted = order_nil; each = tt }

one_line : (line : List ℕ) → IsLine line → IsLineSet (line ∷ [])
one_line line is = record { sorted = order_cons line [] tt order_nil; each = (is, tt) }

-- lines that are put into a set make it another one
union_set : UnionsAreSets → (xs ys : Lines) → IsLineSet xs → Each IsLine ys → IsLineSet (union xs ys)
union_set sets xs [] is all = is
union_set sets xs (y ∷ ys) is all = union_set sets (union xs (y ∷ [])) ys (sets xs (y ∷ []) is (one_line y all.0)) all.1

-- lines count once
union_once : UnionsAreSets → UnionsAssociate → (xs ys : Lines) → IsLineSet xs → Each IsLine ys → union xs (union [] ys) ≡ union xs ys
union_once sets groups xs [] is all = refl
union_once sets groups xs (y ∷ ys) is all =
    let one : IsLineSet (y ∷ []) = one_line y all.0 in
    let rest : IsLineSet (union [] ys) = union_set sets [] ys no_lines all.1 in
    ap (union xs) (sym (union_once sets groups (y ∷ []) ys one all.1))
    ∙ sym (groups xs (y ∷ []) (union [] ys) is one rest)
    ∙ union_once sets groups (union xs (y ∷ [])) ys (sets xs (y ∷ []) is one) all.1

pub merged_once : UnionsAreSets → UnionsAssociate → (files : Files) (path : List ℕ) (lines : Lines) → IsLineSet (lines_at files path) → Each IsLine lines
    → merged_file files path (union [] lines) ≡ merged_file files path lines
merged_once sets groups files path lines is all = ap (with_file files path) (union_once sets groups (lines_at files path) lines is all)

-- ---- a file that is compacted

pub same_path : (path other : List ℕ) → is_at (text_cmp path) other ≡ true → path ≡ other
same_path path other same = bytes_eq-true path other (sym (is_eq-slice_cmp path other) ∙ same)

-- a file that a branch has has a path
pub found_is_line : (files : Files) (path : List ℕ) (lines : Lines) → Each (λ f. IsLine f.0 × IsLineSet f.1) files → file_at files path ≡ Some lines → IsLine path
found_is_line [] path lines all found = absurd cc
found_is_line (f ∷ files) path lines all found = by_test (is_at (text_cmp path) f.0)
    (λ same. subst IsLine (sym (same_path path f.0 same)) all.0.0)
    (λ other. found_is_line files path lines all.1 (rw other at found))
