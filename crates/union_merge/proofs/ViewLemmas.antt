-- A map's entries as a branch sees them.
use Rattle.std.proofs.Common.{◌≡◌, inl, inr, ℕ, Bool, true, false, cond, List, [], ◌∷◌, map, Some, refl, sym, ap, ◌∙◌}
use Rattle.std.specs.declared.vec.Vec.{Vec}
use Rattle.std.specs.declared.alloc.Global.{Global}
use Rattle.std.specs.Ordering.{is_eq}
use Rattle.std.specs.Map.{keys_of, lookup, set_value}
use Rattle.std.specs.BTreeMap.{insert_entry}
use Rattle.annex_base.specs.ByteOrder.{text_cmp, Before, IsInOrder, path_cmp}
use Rattle.annex_base.specs.Lists.{Member}
use Rattle.annex_base.proofs.TextOrder.{below, tied, above, compared, text_cmp-same, before_after, Before-other, Before-back, order_head, order_tail, BeforeAll-member}
use Rattle.annex_base.proofs.Rows.{shown-insert_entry}
use Rattle.union_merge.specs.Branch.{Files, with_file}
use Rattle.union_merge.specs.FileView.{files_of}
use Rattle.union_merge.proofs.SetLemmas.{Lines}
use Rattle.union_merge.proofs.BranchLemmas.{with_file-tied, with_file-above}

abbrev pub Row : Type 0
Row = Vec ℕ Global × List (List ℕ)

pub file_is : (old new : Files) (es : List Row) (path : Vec ℕ Global) (lines : Lines) (p : List ℕ) → new ≡ files_of (insert_entry path_cmp es path lines) → files_of es ≡ old → path.items ≡ p → new ≡ with_file old p lines
file_is old new es path lines p is before same =
    is ∙ shown-insert_entry es path lines ∙ ap (λ (w : Files). with_file w path.items lines) before ∙ ap (λ (w : List ℕ). with_file old w lines) same

pub keys_of-files_of : (es : List Row) → keys_of (files_of es) ≡ map (λ p. p.items) (keys_of es)
keys_of-files_of [] = refl
keys_of-files_of (e ∷ es) = ap (λ (w : Lines). e.0.items ∷ w) (keys_of-files_of es)

-- ---- a file that is there, and is written

-- what finds the path in a map
abbrev pub is_path : List ℕ → Vec ℕ Global → Bool
is_path path = λ k. is_eq (text_cmp path k.items)

set-tied : (e : Row) (es : List Row) (path : List ℕ) (lines : Lines) → path ≡ e.0.items → set_value (is_path path) (e ∷ es) lines ≡ (e.0, lines) ∷ es
set-tied e es path lines same = let tied = text_cmp-same path e.0.items same in rw tied refl

set-above : (e : Row) (es : List Row) (path : List ℕ) (lines : Lines) → Before e.0.items path → set_value (is_path path) (e ∷ es) lines ≡ e ∷ set_value (is_path path) es lines
set-above e es path lines more = let above = before_after e.0.items path more in rw above refl

pub files_of-set_value : (es : List Row) (path : List ℕ) (lines : Lines) → IsInOrder (keys_of (files_of es)) → Member path (keys_of (files_of es)) → files_of (set_value (is_path path) es lines) ≡ with_file (files_of es) path lines
files_of-set_value [] path lines sorted among = absurd among
files_of-set_value (e ∷ es) path lines sorted among = elim (compared path e.0.items) [
  | below less ↦ absurd (elim among [
    | inl same ↦ Before-other path e.0.items less same
    | inr later ↦ Before-back path e.0.items less (BeforeAll-member e.0.items path (keys_of (files_of es)) (order_head e.0.items (keys_of (files_of es)) sorted) later)
  ])
  | tied same ↦ ap files_of (set-tied e es path lines same) ∙ sym (with_file-tied (e.0.items, e.1) (files_of es) path lines same)
  | above more ↦
      ap files_of (set-above e es path lines more)
      ∙ ap (λ (w : Files). (e.0.items, e.1) ∷ w) (files_of-set_value es path lines (order_tail e.0.items (keys_of (files_of es)) sorted) (elim among [
        | inl same ↦ absurd (Before-other e.0.items path more (sym same))
        | inr later ↦ later
      ]))
      ∙ sym (with_file-above (e.0.items, e.1) (files_of es) path lines more)
]

some_same : (x y : Lines) → Some y ≡ Some x → x ≡ y
some_same x y same = cc

-- where the lines are those that it has, nothing changes
pub set_value-same : (es : List Row) (path : List ℕ) (lines : Lines) → lookup (is_path path) es ≡ Some lines → set_value (is_path path) es lines ≡ es
set_value-same [] path lines found = refl
set_value-same (e ∷ es) path lines found = go (is_path path e.0) found (λ later. set_value-same es path lines later)
  where
    go : (b : Bool) → cond b (Some e.1) (lookup (is_path path) es) ≡ Some lines → (lookup (is_path path) es ≡ Some lines → set_value (is_path path) es lines ≡ es) → cond b ((e.0, lines) ∷ es) (e ∷ set_value (is_path path) es lines) ≡ e ∷ es
    go true same later = ap (λ (w : Lines). (e.0, w) ∷ es) (some_same lines e.1 same)
    go false other later = ap (λ (w : List Row). e ∷ w) (later other)
