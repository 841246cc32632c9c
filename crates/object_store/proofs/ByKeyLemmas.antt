-- What maps have by key, as they change.
use Rattle.std.proofs.Common.{◌≡◌, inl, inr, ℕ, ◌<◌, Bool, true, false, cond, List, [], length, Option, Some, None, refl, sym, ap, subst, ◌∙◌}
use Rattle.std.specs.Prelude.{◌^◌, if◌then◌else◌, bytes_eq}
use Rattle.std.specs.BTreeMap.{is_at}
use Rattle.std.specs.Option.{ForSome, unwrap_or}
use Rattle.annex_base.specs.ByteOrder.{text_cmp}
use Rattle.annex_base.proofs.Conditions.{bytes_eq_tells}
use Rattle.std.proofs.lemmas.Map.Text.{is_eq-slice_cmp}
use Rattle.object_store.specs.ByKey.{bytes_at, part_at}
use Rattle.object_store.specs.Stores.{Contents, Parts, with_at, AreSmall, AreShort}

-- a map that was changed at one key
pub updated : (old new : List (List ℕ × List ℕ)) (key : List ℕ) (w : Option (List ℕ)) → ((q : List ℕ) → bytes_at new q ≡ cond (is_at (text_cmp key) q) w (bytes_at old q)) → bytes_at new ≡ with_at (bytes_at old) key w
updated old new key w h = λ i q. (h q ∙ ap (λ b. cond b w (bytes_at old q)) (is_eq-slice_cmp key q)) i

unwrap_if : (b : Bool) (w x : Option (List ℕ)) → unwrap_or (if b then w else x) [] ≡ (if b then unwrap_or w [] else unwrap_or x [])
unwrap_if true w x = refl
unwrap_if false w x = refl

pub part_from : (old new : List (List ℕ × List ℕ)) (key : List ℕ) (w : Option (List ℕ)) → bytes_at new ≡ with_at (bytes_at old) key w → part_at new ≡ with_at (part_at old) key (unwrap_or w [])
part_from old new key w e = λ i q. (ap (λ f. unwrap_or (f q) []) e ∙ unwrap_if (bytes_eq key q) w (bytes_at old q)) i

at_itself : {A : Type 0} (f : List ℕ → A) (key q : List ℕ) → with_at f key (f key) q ≡ f q
at_itself f key q = elim (bytes_eq_tells key q) [
  | inl same ↦ ap (λ b. if b then f key else f q) same.0 ∙ ap f same.1
  | inr other ↦ ap (λ b. if b then f key else f q) other.0
]

-- what was there, put there again
pub with_same : {A : Type 0} (f : List ℕ → A) (key : List ℕ) (x : A) → x ≡ f key → with_at f key x ≡ f
with_same f key x e = ap (with_at f key) e ∙ (λ i q. at_itself f key q i)

pub with_twice : {A : Type 0} (f : List ℕ → A) (key : List ℕ) (x y : A) → with_at (with_at f key x) key y ≡ with_at f key y
with_twice f key x y = λ i q. twice (bytes_eq key q) y x (f q) i
  where
    twice : {A : Type 0} (b : Bool) (y x z : A) → (if b then y else (if b then x else z)) ≡ (if b then y else z)
    twice true y x z = refl
    twice false y x z = refl

-- what stands at the key itself
pub with_here : {A : Type 0} (f : List ℕ → A) (key : List ℕ) (x : A) → with_at f key x key ≡ x
with_here f key x = elim (bytes_eq_tells key key) [
  | inl same ↦ ap (λ b. if b then x else f key) same.0
  | inr other ↦ absurd (other.1 refl)
]

small_if : (b : Bool) (w x : Option (List ℕ)) → ForSome w (λ bytes. length bytes < 2 ^ 62) → ForSome x (λ bytes. length bytes < 2 ^ 62) → ForSome (if b then w else x) (λ bytes. length bytes < 2 ^ 62)
small_if true w x h k = h
small_if false w x h k = k

pub small_with : (f : Contents) (key : List ℕ) (w : Option (List ℕ)) → AreSmall f → ForSome w (λ bytes. length bytes < 2 ^ 62) → AreSmall (with_at f key w)
small_with f key w s h q = small_if (bytes_eq key q) w (f q) h (s q)

short_if : (b : Bool) (x y : List ℕ) → length x < 2 ^ 62 → length y < 2 ^ 62 → length (if b then x else y) < 2 ^ 62
short_if true x y h k = h
short_if false x y h k = k

pub short_with : (p : Parts) (key x : List ℕ) → AreShort p → length x < 2 ^ 62 → AreShort (with_at p key x)
short_with p key x s h q = short_if (bytes_eq key q) x (p q) h (s q)

pub small_as : (f g : Contents) → g ≡ f → AreSmall f → AreSmall g
small_as f g e s = subst AreSmall (sym e) s

pub short_as : (p q : Parts) → q ≡ p → AreShort p → AreShort q
short_as p q e s = subst AreShort (sym e) s

pub short_some : (y : List ℕ) → length y < 2 ^ 62 → ForSome (Some y) (λ bytes. length bytes < 2 ^ 62)
short_some y h x e = subst (λ o. length (unwrap_or o []) < 2 ^ 62) e h

pub small_none : ForSome None (λ (bytes : List ℕ). length bytes < 2 ^ 62)
small_none x e = absurd (cc)

pub told_short : (p q : Parts) → Some p ≡ Some q → AreShort p → AreShort q
told_short p q e s = subst (λ o. AreShort (unwrap_or o p)) e s
