-- Steps that may fail.
use Rattle.std.proofs.Common.{◌≡◌, ◌⊎◌, inl, inr, Bool, true, false, if◌then◌else◌, Result, Ok, Err, IfOk, OnErr, refl}
use Rattle.annex_base.specs.ResultSteps.{◌>>=◌}

-- the value of a step that did not fail
pub bind_ok : {A B E : Type 0} (r : Result A E) (f : A → Result B E) (y : B) → (r >>= f) ≡ Ok y → (x : A) × (r ≡ Ok x) × (f x ≡ Ok y)
bind_ok (Ok x) f y e = (x, refl, e)
bind_ok (Err d) f y e = absurd cc

-- where a chain failed: at its first step, or after it
pub bind_err : {A B E : Type 0} (r : Result A E) (f : A → Result B E) (d : E) → (r >>= f) ≡ Err d → (r ≡ Err d) ⊎ ((x : A) × (r ≡ Ok x) × (f x ≡ Err d))
bind_err (Ok x) f d e = inr (x, refl, e)
bind_err (Err c) f d e = inl cc

-- a test that passed, or didn't
pub guard_ok : {A E : Type 0} (b : Bool) (d : E) (x y : A) → (if b then Ok x else Err d) ≡ Ok y → (b ≡ true) × (x ≡ y)
guard_ok true d x y e = (refl, cc)
guard_ok false d x y e = absurd cc

pub guard_err : {A E : Type 0} (b : Bool) (c d : E) (x : A) → (if b then Ok x else Err c) ≡ Err d → (b ≡ false) × (c ≡ d)
guard_err true c d x e = absurd cc
guard_err false c d x e = (refl, cc)

-- a value and a failure are two things; the type that doesn't show comes first
pub ok_is : {A : Type 0} (E : Type 0) (x y : A) → ◌≡◌ {A = Result A E} (Ok x) (Ok y) → x ≡ y
ok_is E x y e = cc

pub err_is : {E : Type 0} (A : Type 0) (c d : E) → ◌≡◌ {A = Result A E} (Err c) (Err d) → c ≡ d
err_is A c d e = cc

pub err_ok : {A E : Type 0} (d : E) (y : A) → Err d ≡ Ok y → ⊥
err_ok d y e = cc

pub ok_err : {A E : Type 0} (d : E) (y : A) → Ok y ≡ Err d → ⊥
ok_err d y e = cc

-- ---- what a clause says of an answer

pub OnErr-always : {A E : Type 0} (P : Type 0) (r : Result A E) → P → OnErr r P
OnErr-always P (Ok x) p = tt
OnErr-always P (Err d) p = p

pub IfOk-both : {A E : Type 0} (r : Result A E) (P Q R : A → Type 0) → ((x : A) → P x → Q x → R x) → IfOk r P → IfOk r Q → IfOk r R
IfOk-both (Ok x) P Q R f p q = f x p q
IfOk-both (Err d) P Q R f p q = tt
