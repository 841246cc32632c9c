-- Lists of what is made of the elements that pass a test, element by element.
use Rattle.std.proofs.Common.{◌≡◌, Bool, true, false, filter, map, ℕ, ◌+◌, ◌<◌, List, [], ◌∷◌, ◌++◌, length, get_or, take, refl, sym, ◌∙◌, ap, append_assoc, append-nil}
use Rattle.std.proofs.lemmas.List.{take_more, map-append}
use Rattle.std.proofs.lemmas.List.Elements.{filter-append}

-- the elements up to the one at a place
taken_more : {X : Type 0} (xs : List X) (i : ℕ) (x : X) → i < length xs → x ≡ get_or xs i x → take (i + 1) xs ≡ take i xs ++ x ∷ []
taken_more {X = X} xs i x within at = take_more xs i x within ∙ ap (λ (y : X). take i xs ++ y ∷ []) (sym at)

-- one more element that passes the test
pub chosen_with : {X Y : Type 0} (p : X → Bool) (f : X → Y) (xs : List X) (i : ℕ) (x : X) (before old new : List Y) → i < length xs → x ≡ get_or xs i x → p x ≡ true
    → old ≡ before ++ map f (filter p (take i xs)) → new ≡ old ++ f x ∷ [] → new ≡ before ++ map f (filter p (take (i + 1) xs))
chosen_with {X = X} {Y = Y} p f xs i x before old new within at passes was is =
    let last : filter p (x ∷ []) ≡ x ∷ [] = rw passes refl in
    let more : map f (filter p (take (i + 1) xs)) ≡ map f (filter p (take i xs)) ++ f x ∷ [] =
    rw (taken_more xs i x within at, filter-append p (take i xs) (x ∷ []), last, map-append f (filter p (take i xs)) (x ∷ [])) refl in
    is ∙ ap (λ (l : List Y). l ++ f x ∷ []) was ∙ append_assoc before (map f (filter p (take i xs))) (f x ∷ []) ∙ ap (λ (l : List Y). before ++ l) (sym more)

-- one more element that doesn't
pub chosen_without : {X Y : Type 0} (p : X → Bool) (f : X → Y) (xs : List X) (i : ℕ) (x : X) (before old new : List Y) → i < length xs → x ≡ get_or xs i x → p x ≡ false
    → old ≡ before ++ map f (filter p (take i xs)) → new ≡ old → new ≡ before ++ map f (filter p (take (i + 1) xs))
chosen_without {X = X} {Y = Y} p f xs i x before old new within at fails was is =
    let last : filter p (x ∷ []) ≡ [] = rw fails refl in
    let same : map f (filter p (take (i + 1) xs)) ≡ map f (filter p (take i xs)) =
    rw (taken_more xs i x within at, filter-append p (take i xs) (x ∷ []), last, append-nil) refl in
    is ∙ was ∙ ap (λ (l : List Y). before ++ l) (sym same)
