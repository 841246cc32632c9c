-- Until when holds block a key, whichever way round they stand.
use Rattle.std.proofs.Common.{◌≡◌, ℕ, ◌+◌, Bool, true, false, cond, not, if◌then◌else◌, List, [], ◌∷◌, ◌++◌, Option, Some, None, filter, map, max, refl, sym, ap, ◌∙◌, append-nil, arith}
use Rattle.std.specs.Prelude.{fold, reverse}
use Rattle.std.specs.List.{list_any, reduce}
use Rattle.std.proofs.lemmas.List.{map-append, reverse-append}
use Rattle.std.proofs.lemmas.List.Elements.{filter-append}
use Rattle.std.proofs.lemmas.List.Sorted.{IsPermutation-reverse, list_any-IsPermutation}
use Rattle.run_data.specs.declared.row.Hold.{Hold}
use Rattle.node_model.specs.DropStep.{until}
use Rattle.drop_makes.specs.Holds.{until_by}

-- ---- the other way round

reverse_cons : {X : Type 0} (x : X) (xs : List X) → reverse (x ∷ xs) ≡ reverse xs ++ x ∷ []
reverse_cons x xs = reverse-append (x ∷ []) xs

filter_reverse : {X : Type 0} (p : X → Bool) (xs : List X) → reverse (filter p xs) ≡ filter p (reverse xs)
filter_reverse p [] = refl
filter_reverse {X} p (x ∷ xs) =
    go (p x) (filter_reverse p xs) ∙ sym (filter-append p (reverse xs) (x ∷ [])) ∙ ap (filter p) (sym (reverse_cons x xs))
  where
    go : (b : Bool) → reverse (filter p xs) ≡ filter p (reverse xs) → reverse (cond b (x ∷ filter p xs) (filter p xs)) ≡ filter p (reverse xs) ++ cond b (x ∷ []) []
    go true more = reverse_cons x (filter p xs) ∙ ap (λ (ys : List X). ys ++ x ∷ []) more
    go false more = more ∙ sym (append-nil (filter p (reverse xs)))

map_reverse : {X Y : Type 0} (f : X → Y) (xs : List X) → map f (reverse xs) ≡ reverse (map f xs)
map_reverse f [] = refl
map_reverse {X} {Y} f (x ∷ xs) =
    ap (map f) (reverse_cons x xs) ∙ map-append f (reverse xs) (x ∷ []) ∙ ap (λ (ys : List Y). ys ++ f x ∷ []) (map_reverse f xs) ∙ sym (reverse_cons (f x) (map f xs))

-- ---- the greatest

max_assoc : (a b c : ℕ) → max (max a b) c ≡ max a (max b c)
max_assoc a b c = omega arith

max_swap : (a b : ℕ) → max a b ≡ max b a
max_swap a b = omega arith

fold_out : (a b : ℕ) (ns : List ℕ) → fold max (max a b) ns ≡ max a (fold max b ns)
fold_out a b [] = refl
fold_out a b (n ∷ ns) = ap (λ (m : ℕ). fold max m ns) (max_assoc a b n) ∙ fold_out a (max b n) ns

fold_push : (a n : ℕ) (ns : List ℕ) → fold max a (ns ++ n ∷ []) ≡ max (fold max a ns) n
fold_push a n [] = refl
fold_push a n (m ∷ ms) = fold_push (max a m) n ms

-- the greatest of all but the last, and the last
abbrev greater : Option ℕ → ℕ → Option ℕ
greater None n = Some n
greater (Some m) n = Some (max m n)

reduce_push : (n : ℕ) (ns : List ℕ) → reduce max (ns ++ n ∷ []) ≡ greater (reduce max ns) n
reduce_push n [] = refl
reduce_push n (m ∷ ms) = ap Some (fold_push m n ms)

reduce_first : (n : ℕ) (ns : List ℕ) → greater (reduce max ns) n ≡ reduce max (n ∷ ns)
reduce_first n [] = refl
reduce_first n (m ∷ ms) = ap Some (max_swap (fold max m ms) n ∙ sym (fold_out n m ms))

reduce_reverse : (ns : List ℕ) → reduce max (reverse ns) ≡ reduce max ns
reduce_reverse [] = refl
reduce_reverse (n ∷ ns) =
    ap (reduce max) (reverse_cons n ns) ∙ reduce_push n (reverse ns) ∙ ap (λ (o : Option ℕ). greater o n) (reduce_reverse ns) ∙ reduce_first n ns

-- ---- holds

ends_folded : (a : ℕ) (hs : List Hold) → fold (λ latest (x : Hold). max latest x.end) a hs ≡ fold max a (map (λ h. h.end) hs)
ends_folded a [] = refl
ends_folded a (h ∷ hs) = ends_folded (max a h.end) hs

until_is : (hs : List Hold) → until hs ≡ until_by (list_any (λ x. not x.kept) hs) (reduce max (map (λ h. h.end) hs))
until_is [] = refl
until_is (h ∷ hs) = ap (λ (n : ℕ). Some (if list_any (λ (x : Hold). not x.kept) (h ∷ hs) then None else Some n)) (ends_folded h.end hs)

pub until_reversed : (p : Hold → Bool) (hs : List Hold) → until (filter p (reverse hs)) ≡ until_by (list_any (λ x. not x.kept) (filter p hs)) (reduce max (map (λ h. h.end) (filter p hs)))
until_reversed p hs =
    let endless : Hold → Bool = λ x. not x.kept in
    let end : Hold → ℕ = λ h. h.end in
    let blocking = filter p hs in
    ap until (sym (filter_reverse p hs)) ∙ until_is (reverse blocking)
    ∙ ap (λ (b : Bool). until_by b (reduce max (map end (reverse blocking)))) (sym (list_any-IsPermutation endless blocking (reverse blocking) (IsPermutation-reverse blocking)))
    ∙ ap (λ (o : Option ℕ). until_by (list_any endless blocking) o) (ap (reduce max) (map_reverse end blocking) ∙ reduce_reverse (map end blocking))
