-- Steps that may fail, tests, and the bytes that a list begins with.
use Rattle.std.proofs.Common.{◌≡◌, ℕ, true, false, eqb, List, [], ◌∷◌, drop, Option, Some, None, Result, Ok, Err, refl, sym, true≢false}
use Rattle.std.specs.Option.{option_map}
use Rattle.std.proofs.lemmas.Bool.{eqb-true, and_parts}
use Rattle.annex_base.specs.Lines.{dash}
use Rattle.annex_key.specs.declared.fault.KeyFault.{KeyFault}
use Rattle.annex_key.specs.Reading.{comes, or_fault}

abbrev done : {A : Type 0} → A → Result A KeyFault
done x = Ok x

pub ok_is : {A : Type 0} (x y : A) → done x ≡ done y → x ≡ y
ok_is x y e = cc

abbrev failed : (A : Type 0) → KeyFault → Result A KeyFault
failed A d = Err d

pub err_is : (A : Type 0) (c d : KeyFault) → failed A c ≡ failed A d → c ≡ d
err_is A c d e = cc

pub option_ok : {A B : Type 0} (o : Option A) (f : A → B) (d : KeyFault) (y : B) → or_fault (option_map f o) d ≡ Ok y → (x : A) × (o ≡ Some x) × (f x ≡ y)
option_ok None f d y e = absurd cc
option_ok (Some x) f d y e = (x, refl, ok_is (f x) y e)

pub option_err : {A B : Type 0} (o : Option A) (f : A → B) (c d : KeyFault) → or_fault (option_map f o) c ≡ Err d → (o ≡ None) × (c ≡ d)
option_err None f c d e = (refl, cc)
option_err (Some x) f c d e = absurd cc

-- a dash and the letter that come
pub comes_is : (letter : ℕ) (bytes : List ℕ) → comes letter bytes ≡ true → bytes ≡ dash ∷ letter ∷ drop 2 bytes
comes_is letter [] h = absurd cc
comes_is letter (x ∷ []) h = absurd (true≢false (sym (and_parts (eqb x dash) false h).1))
comes_is letter (x ∷ y ∷ ys) h =
    let both = and_parts (eqb x dash) (eqb y letter) h in rw (eqb-true x dash both.0, eqb-true y letter both.1) refl
