-- Indices by path: what is found after one is changed or added.
use Rattle.std.proofs.Common.{◌≡◌, ℕ, true, false, List, [], ◌∷◌, Some, Result, Ok, Err, OnErr, refl, sym, ap, ◌∙◌}
use Rattle.std.specs.declared.vec.Vec.{Vec}
use Rattle.std.specs.declared.alloc.Global.{Global}
use Rattle.std.specs.Ordering.{is_eq}
use Rattle.std.specs.Map.{lookup, set_value}
use Rattle.std.specs.BTreeMap.{insert_entry, is_at}
use Rattle.std.proofs.lemmas.Cmp.{nat_list_cmp_total, tied_itself}
use Rattle.std.proofs.lemmas.Map.Steps.{set_value_same}
use Rattle.std.proofs.lemmas.Map.Text.{is_eq-slice_cmp}
use Rattle.std.proofs.lemmas.Slice.Eq.{bytes_eq-Decides}
use Rattle.std.proofs.lemmas.Option.{none-some}
use Rattle.std.proofs.lemmas.Bool.{false_from_ne_true}
use Rattle.annex_base.specs.ByteOrder.{text_cmp}
use Rattle.log_lines.specs.Index.{Index}
use Rattle.annex_base.proofs.Conditions.{by_test}
use Rattle.annex_base.proofs.TextOrder.{by_order}
use Rattle.trust_groups.specs.Adding.{indices_with}
use Rattle.trust_groups.specs.Reads.{Indices, index_at, view_of}

abbrev Row : Type 0
Row = Vec ℕ Global × Index

-- ---- what is found at a path

pub same_path : (x y : List ℕ) → is_eq (text_cmp x y) ≡ true → x ≡ y
same_path x y h = (bytes_eq-Decides x y).0 (sym (is_eq-slice_cmp x y) ∙ h)

pub own_path : (x : List ℕ) → is_eq (text_cmp x x) ≡ true
own_path x = ap is_eq (tied_itself nat_list_cmp_total x)

apart : (x y z : List ℕ) → (x ≡ y → ⊥) → is_eq (text_cmp x z) ≡ true → is_eq (text_cmp y z) ≡ false
apart x y z other h = false_from_ne_true (is_eq (text_cmp y z)) (λ t. other (same_path x z h ∙ sym (same_path y z t)))

pub set_own : (es : Indices) (path : List ℕ) (old index : Index) → index_at es path ≡ Some old → index_at (indices_with es path index) path ≡ Some index
set_own [] path old index h = absurd (none-some old h)
set_own (e ∷ es) path old index h =
    by_test (is_eq (text_cmp path e.0)) (λ t. rw (t, t) refl) (λ t. rw (t, t) (set_own es path old index (rw t at h)))

pub set_other : (es : Indices) (path other : List ℕ) (index : Index) → (path ≡ other → ⊥) → index_at (indices_with es path index) other ≡ index_at es other
set_other [] path other index apart_from = refl
set_other (e ∷ es) path other index apart_from =
    by_test (is_eq (text_cmp path e.0))
    (λ t. let no = apart path other e.0 apart_from t in rw (t, no) refl)
    (λ t. by_test (is_eq (text_cmp other e.0)) (λ s. rw (t, s) refl) (λ s. rw (t, s) (set_other es path other index apart_from)))

pub put_own : {V : Type 0} (es : List (List ℕ × V)) (path : List ℕ) (index : V) → lookup (is_at (text_cmp path)) (insert_entry text_cmp es path index) ≡ Some index
put_own [] path index = let own = own_path path in rw own refl
put_own (e ∷ es) path index =
    let own = own_path path in
    by_order (text_cmp path e.0)
    (λ o. rw (o, own) refl)
    (λ o. rw (o, o) refl)
    (λ o. rw (o, o) (put_own es path index))

pub put_other : {V : Type 0} (es : List (List ℕ × V)) (path other : List ℕ) (index : V) → (path ≡ other → ⊥) → lookup (is_at (text_cmp other)) (insert_entry text_cmp es path index) ≡ lookup (is_at (text_cmp other)) es
put_other [] path other index apart_from = let no = apart path other path apart_from (own_path path) in rw no refl
put_other (e ∷ es) path other index apart_from =
    let no = apart path other path apart_from (own_path path) in
    by_order (text_cmp path e.0)
    (λ o. rw (o, no) refl)
    (λ o. let tied = apart path other e.0 apart_from (ap is_eq o) in rw (o, tied) refl)
    (λ o. by_test (is_eq (text_cmp other e.0)) (λ s. rw (o, s) refl) (λ s. rw (o, s) (put_other es path other index apart_from)))

-- what the map is where the index that was lent is as it was
pub lent_same : {T E : Type 0} (r : Result T E) (old new : List Row) (path : List ℕ) (was is : Index) → new ≡ set_value (λ k. is_eq (text_cmp path k.items)) old is → Some was ≡ lookup (λ k. is_eq (text_cmp path k.items)) old → is ≡ was → OnErr r (view_of new ≡ view_of old)
lent_same (Ok v) old new path was is set found same = tt
lent_same (Err e) old new path was is set found same =
    ap view_of (set ∙ ap (set_value (λ k. is_eq (text_cmp path k.items)) old) same ∙ set_value_same (λ k. is_eq (text_cmp path k.items)) old was (sym found))
