-- The numbers that lines give, one line after the other.
use Rattle.std.proofs.Common.{◌≡◌, ℕ, ◌+◌, ◌<◌, List, ◌++◌, length, map, drop, get_or, Ok, sym, ap, ◌∙◌, append_assoc}
use Rattle.std.proofs.lemmas.List.{drop_more}
use Rattle.script_lang.specs.Numbering.{numbers_by, numbers_from, numbers_then}
use Rattle.script_lang.specs.Script.{State, line_step}

-- the numbers of the lines from this one on
front_numbers : {X : Type 0} (f : X → List ℕ) (xs : List X) (i : ℕ) (d : X) (state : State) (number : ℕ) → i < length xs
    → numbers_from state number (map f (drop i xs)) ≡ numbers_then state number (line_step state number (f (get_or xs i d))) (λ new. numbers_from new (number + 1) (map f (drop (i + 1) xs)))
front_numbers f xs i d state number within = ap (λ ls. numbers_from state number (map f ls)) (drop_more xs i d within)

-- a line that is right goes on
pub numbers_next : {X : Type 0} (f : X → List ℕ) (xs : List X) (i : ℕ) (d : X) (old new : State) (before after all : List ℕ) → i < length xs
    → before ++ numbers_from old (i + 1) (map f (drop i xs)) ≡ all → line_step old (i + 1) (f (get_or xs i d)) ≡ Ok new → after ≡ before ++ numbers_by old (i + 1) new
    → after ++ numbers_from new (i + 1 + 1) (map f (drop (i + 1) xs)) ≡ all
numbers_next f xs i d old new before after all within so_far is added =
    let rest = numbers_from new (i + 1 + 1) (map f (drop (i + 1) xs)) in
    ap (λ ns. ns ++ rest) added ∙ append_assoc before (numbers_by old (i + 1) new) rest
    ∙ ap (λ ns. before ++ ns) (sym (front_numbers f xs i d old (i + 1) within ∙ ap (λ r. numbers_then old (i + 1) r (λ s. numbers_from s (i + 1 + 1) (map f (drop (i + 1) xs)))) is))
    ∙ so_far
