-- The front of a list that passes a test, and what stops it.
use Rattle.std.proofs.Common.{◌≡◌, ℕ, ◌+◌, Bool, true, false, List, [], ◌∷◌, ◌++◌, length, take, drop, refl, one-add}
use Rattle.std.specs.List.{prefix_len, list_all}
use Rattle.std.proofs.lemmas.Bool.{cond_both, and_parts, and_from}

-- ---- the front that passes a test

pub front_passes : (p : ℕ → Bool) (xs : List ℕ) → list_all p (take (prefix_len p xs) xs) ≡ true
front_passes p [] = refl
front_passes p (x ∷ xs) =
    cond_both (p x) (1 + prefix_len p xs) 0 (λ n. list_all p (take n (x ∷ xs)) ≡ true)
    (λ e. rw (one-add (prefix_len p xs)) (and_from (p x) _ e (front_passes p xs)))
    (λ e. refl)

-- nothing, or a byte that doesn't pass
abbrev pub Stops : (ℕ → Bool) → List ℕ → Type 0
Stops p [] = Unit {0}
Stops p (x ∷ xs) = p x ≡ false

pub rest_stops : (p : ℕ → Bool) (xs : List ℕ) → Stops p (drop (prefix_len p xs) xs)
rest_stops p [] = tt
rest_stops p (x ∷ xs) =
    cond_both (p x) (1 + prefix_len p xs) 0 (λ n. Stops p (drop n (x ∷ xs)))
    (λ e. rw (one-add (prefix_len p xs)) (rest_stops p xs))
    (λ e. e)

pub none_pass : (p : ℕ → Bool) (rest : List ℕ) → Stops p rest → prefix_len p rest ≡ 0
none_pass p [] stops = refl
none_pass p (x ∷ xs) stops = rw stops refl

pub front_len : (p : ℕ → Bool) (front rest : List ℕ) → list_all p front ≡ true → Stops p rest → prefix_len p (front ++ rest) ≡ length front
front_len p [] rest all stops = none_pass p rest stops
front_len p (x ∷ xs) rest all stops =
    let both = and_parts (p x) (list_all p xs) all in rw (both.0, front_len p xs rest both.1 stops) (one-add (length xs))
