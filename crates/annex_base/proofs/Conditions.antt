-- Tests of one condition and of two: what std's lemmas on `Bool` leave out.
use Rattle.std.proofs.Common.{◌≡◌, ◌≢◌, ◌⊎◌, inl, inr, ◌↔◌, ℕ, ◌<◌, Bool, true, false, IsTrue, List, refl, sym, ◌∙◌, arith}
use Rattle.std.specs.Prelude.{if◌then◌else◌, ◌==◌, ◌&&◌, ◌||◌, not, bytes_eq}
use Rattle.std.specs.Cmp.Lexicographic.{bytes_decides}
use Rattle.annex_base.specs.Bools.{same_bool}
use Rattle.std.proofs.lemmas.Bool.{cases_Bool, false_from_ne_true, true≢false}
use Rattle.std.proofs.lemmas.Bool.Decides.{nat_tests}

-- the branch that an `if` took
pub if_is : {X : Type 0} (b : Bool) (x y z : X) → (if b then x else y) ≡ z → ((b ≡ true) × (x ≡ z)) ⊎ ((b ≡ false) × (y ≡ z))
if_is true x y z e = inl (refl, e)
if_is false x y z e = inr (refl, e)

-- what holds of each branch, with its test, holds of the `if`
pub if_either : {X : Type 0} (P : X → Type 0) (b : Bool) (x y : X) → (b ≡ true → P x) → (b ≡ false → P y) → P (if b then x else y)
if_either P true x y f g = f refl
if_either P false x y f g = g refl

pub if_same : {X : Type 0} (b : Bool) (x : X) → (if b then x else x) ≡ x
if_same true x = refl
if_same false x = refl

pub by_test : {P : Type 0} (b : Bool) → (b ≡ true → P) → (b ≡ false → P) → P
by_test true f g = f refl
by_test false f g = g refl

-- a test turned, and turned again
pub not_not : (b : Bool) → not (not b) ≡ b
not_not true = refl
not_not false = refl

pub not_by_if : (b : Bool) → not b ≡ (if b then false else true)
not_by_if true = refl
not_by_if false = refl

pub if_not : (b : Bool) → (if not b then false else true) ≡ b
if_not true = refl
if_not false = refl

pub if_turned : (b : Bool) → (if b then false else true) ≡ true → b ≡ false
if_turned true e = absurd (true≢false (sym e))
if_turned false e = refl

-- ---- the same truth value

pub same_bool_refl : (b : Bool) → same_bool b b ≡ true
same_bool_refl true = refl
same_bool_refl false = refl

pub same_bool_is : (b c : Bool) → same_bool b c ≡ true → b ≡ c
same_bool_is true c is = sym is
same_bool_is false true is = absurd (true≢false (sym is))
same_bool_is false false is = refl

-- ---- two tests

pub and_first : (b c : Bool) → (b && c) ≡ true → b ≡ true
and_first true c e = refl
and_first false c e = e

pub and_second : (b c : Bool) → (b && c) ≡ true → c ≡ true
and_second true c e = e
and_second false c e = absurd (true≢false (sym e))

pub or_first : (b c : Bool) → (b || c) ≡ false → b ≡ false
or_first true c e = absurd (true≢false e)
or_first false c e = refl

pub and_regrouped : (a b c d : Bool) → (a && (b && (c && d))) ≡ (((a && b) && c) && d)
and_regrouped true true c d = refl
and_regrouped true false c d = refl
and_regrouped false b c d = refl

-- two tests of one fact
pub same_test : (b c : Bool) → (b ≡ true → c ≡ true) → (c ≡ true → b ≡ true) → b ≡ c
same_test true c f g = sym (f refl)
same_test false c f g = sym (false_from_ne_true c (λ e. true≢false (sym (g e))))

-- what a test decides, and what a test that fails rules out
pub decided : (b t : Bool) (P : Type 0) → b ≡ t → (t ≡ true → P) → (P → t ≡ true) → IsTrue b ↔ P
decided b t P is found told = (λ holds. found (sym is ∙ holds), λ p. is ∙ told p)

pub denied : (b : Bool) (P : Type 0) → b ≡ false → (P → ⊥) → IsTrue b ↔ P
denied b P is none = (λ holds. absurd (true≢false (sym holds ∙ is)), λ p. absurd (none p))

pub eqb_refl : (a : ℕ) → (a == a) ≡ true
eqb_refl a = grind arith

pub eqb_sym : (a b : ℕ) → (a == b) ≡ (b == a)
eqb_sym a b = grind arith

pub eqb_turned : (a b : ℕ) → (a == b) ≡ false → (b == a) ≡ false
eqb_turned a b e = grind (arith, nat_tests)

pub eqb_apart : (a b : ℕ) → not (a == b) ≡ true → (b == a) ≡ false
eqb_apart a b e = grind (arith, nat_tests)

pub eqb_other : (a b : ℕ) → b ≢ a → (a == b) ≡ false
eqb_other a b other = grind (arith, nat_tests)

pub eqb_less : (a b : ℕ) → a < b → (a == b) ≡ false
eqb_less a b less = grind (arith, nat_tests)

pub eqb_more : (a b : ℕ) → a < b → (b == a) ≡ false
eqb_more a b less = grind (arith, nat_tests)

-- ---- texts

pub bytes_eq-refl : (x : List ℕ) → bytes_eq x x ≡ true
bytes_eq-refl x = (bytes_decides x x).1 refl

pub bytes_eq-true : (x y : List ℕ) → bytes_eq x y ≡ true → x ≡ y
bytes_eq-true x y e = (bytes_decides x y).0 e

pub bytes_eq-other : (x y : List ℕ) → x ≢ y → bytes_eq x y ≡ false
bytes_eq-other x y other = false_from_ne_true (bytes_eq x y) (λ e. other (bytes_eq-true x y e))

pub bytes_eq_tells : (x y : List ℕ) → ((bytes_eq x y ≡ true) × (x ≡ y)) ⊎ ((bytes_eq x y ≡ false) × (x ≢ y))
bytes_eq_tells x y = elim (cases_Bool (bytes_eq x y)) [
  | inl e ↦ inl (e, bytes_eq-true x y e)
  | inr e ↦ inr (e, λ same. true≢false (sym ((bytes_decides x y).1 same) ∙ e))
]
