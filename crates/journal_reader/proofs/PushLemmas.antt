-- Lists that grow at their end.
use Rattle.std.proofs.Common.{◌≡◌, ℕ, ◌-◌, List, [], ◌∷◌, ◌++◌, length, reverse, Some, arith, refl, sym, ap, ◌∙◌, append_assoc}
use Rattle.std.specs.Prelude.{slice_get}
use Rattle.std.proofs.lemmas.List.{append-nil, length_push, reverse-append}
use Rattle.journal_reading.specs.Reading.{Saying, ◌>>>◌}
use Rattle.journal_reading.specs.Reading.Saying.{Said, Outside}
use Rattle.journal_reader.specs.Steps.{last_of}

at_end : {A : Type 0} (xs : List A) (x : A) → slice_get (xs ++ x ∷ []) (length xs) ≡ Some x
at_end [] x = refl
at_end (y ∷ xs) x = at_end xs x

pub last_push : {A : Type 0} (xs : List A) (x : A) → last_of (xs ++ x ∷ []) ≡ Some x
last_push xs x =
    let n : length (xs ++ x ∷ []) - 1 ≡ length xs = omega (arith, length_push xs x) in
    ap (slice_get (xs ++ x ∷ [])) n ∙ at_end xs x

pub reverse_push : {A : Type 0} (xs : List A) (x : A) → reverse (xs ++ x ∷ []) ≡ x ∷ reverse xs
reverse_push xs x = reverse-append xs (x ∷ [])

-- items, and what is said behind them
abbrev pub behind_these : {A : Type 0} → List A → Saying (List A) → Saying (List A)
behind_these xs s = s >>> λ ys rest. Said (xs ++ ys) rest

pub behind_none : {A : Type 0} (s : Saying (List A)) → s ≡ behind_these [] s
behind_none (Said xs rest) = refl
behind_none (Outside rest) = refl

pub behind_more : {A : Type 0} (xs : List A) (x : A) (s : Saying (List A)) → behind_these xs (s >>> λ ys rest. Said (x ∷ ys) rest) ≡ behind_these (xs ++ x ∷ []) s
behind_more xs x (Said ys rest) = ap (λ l. Said l rest) (sym (append_assoc xs (x ∷ []) ys))
behind_more xs x (Outside rest) = refl

pub behind_end : {A : Type 0} (xs : List A) (rest : List (List ℕ)) → behind_these xs (Said [] rest) ≡ Said xs rest
behind_end xs rest = ap (λ l. Said l rest) (append-nil xs)

-- items, and those before the rest
abbrev pub before_rest : {A B : Type 0} → List A → List A × B → List A × B
before_rest xs y = (xs ++ y.0, y.1)

pub before_more : {A B : Type 0} (xs : List A) (x : A) (y : List A × B) → before_rest xs (x ∷ y.0, y.1) ≡ before_rest (xs ++ x ∷ []) y
before_more {A} {B} xs x y = ap (λ (l : List A). paired l) (sym (append_assoc xs (x ∷ []) y.0))
  where
    paired : List A → List A × B
    paired l = (l, y.1)

pub before_end : {A B : Type 0} (xs : List A) (rest : B) → before_rest xs ([], rest) ≡ (xs, rest)
before_end {A} {B} xs rest = ap (λ (l : List A). paired l) (append-nil xs)
  where
    paired : List A → List A × B
    paired l = (l, rest)
