-- The entries of a map from byte strings, without where these lie in memory.
use Rattle.std.proofs.Common.{◌≡◌, ℕ, true, false, cond, List, [], ◌∷◌, map, Some, refl, ap}
use Rattle.std.specs.declared.vec.Vec.{Vec}
use Rattle.std.specs.declared.alloc.Global.{Global}
use Rattle.std.specs.declared.cmp.Ordering.TheVariants.{Less, Equal, Greater}
use Rattle.std.specs.Ordering.{match_ordering, is_eq}
use Rattle.std.specs.Map.{lookup, set_value}
use Rattle.std.specs.BTreeMap.{is_at, insert_entry}
use Rattle.annex_base.specs.ByteOrder.{path_cmp, text_cmp}

abbrev pub Rows : Type 0 → Type 0
Rows V = List (Vec ℕ Global × V)

abbrev pub shown : {V : Type 0} → Rows V → List (List ℕ × V)
shown rows = map (λ e. (e.0.items, e.1)) rows

pub shown-insert_entry : {V : Type 0} (es : Rows V) (path : Vec ℕ Global) (v : V) → shown (insert_entry path_cmp es path v) ≡ insert_entry text_cmp (shown es) path.items v
shown-insert_entry [] path v = refl
shown-insert_entry {V} (e ∷ es) path v =
    elim (text_cmp path.items e.0.items) as (λ o. shown (match_ordering o ((path, v) ∷ e ∷ es) ((e.0, v) ∷ es) (e ∷ insert_entry path_cmp es path v)) ≡ match_ordering o ((path.items, v) ∷ shown (e ∷ es)) ((e.0.items, v) ∷ shown es) ((e.0.items, e.1) ∷ insert_entry text_cmp (shown es) path.items v)) [
      | Less ↦ refl
      | Equal ↦ refl
      | Greater ↦ ap (λ (w : List (List ℕ × V)). (e.0.items, e.1) ∷ w) (shown-insert_entry es path v)
    ]

pub lookup-shown : {V : Type 0} (es : Rows V) (path : List ℕ) → lookup (λ k. is_eq (text_cmp path k.items)) es ≡ lookup (is_at (text_cmp path)) (shown es)
lookup-shown [] path = refl
lookup-shown (e ∷ es) path =
    elim (is_eq (text_cmp path e.0.items)) as (λ b. cond b (Some e.1) (lookup (λ k. is_eq (text_cmp path k.items)) es) ≡ cond b (Some e.1) (lookup (is_at (text_cmp path)) (shown es))) [
      | true ↦ refl
      | false ↦ lookup-shown es path
    ]

pub shown-set_value : {V : Type 0} (es : Rows V) (path : List ℕ) (v : V) → shown (set_value (λ k. is_eq (text_cmp path k.items)) es v) ≡ set_value (is_at (text_cmp path)) (shown es) v
shown-set_value [] path v = refl
shown-set_value {V} (e ∷ es) path v =
    elim (is_eq (text_cmp path e.0.items)) as (λ b. shown (cond b ((e.0, v) ∷ es) (e ∷ set_value (λ k. is_eq (text_cmp path k.items)) es v)) ≡ cond b ((e.0.items, v) ∷ shown es) ((e.0.items, e.1) ∷ set_value (is_at (text_cmp path)) (shown es) v)) [
      | true ↦ refl
      | false ↦ ap (λ (w : List (List ℕ × V)). (e.0.items, e.1) ∷ w) (shown-set_value es path v)
    ]
