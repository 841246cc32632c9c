-- Lines one after the other.
use Rattle.std.proofs.Common.{◌≡◌, ℕ, ◌+◌, ◌<◌, List, ◌∷◌, length, map, drop, get_or, Ok, Err, Result, ap, ◌∙◌}
use Rattle.std.proofs.lemmas.List.{drop_more}
use Rattle.script_lang.specs.Script.{State, Reading, lines_reading, goes_on, line_step}

-- the reading of the lines from this one on
pub front_reading : {X : Type 0} (f : X → List ℕ) (xs : List X) (i : ℕ) (d : X) (state : State) (number : ℕ) → i < length xs
    → lines_reading state number (map f (drop i xs)) ≡ goes_on number (line_step state number (f (get_or xs i d))) (λ next. lines_reading next (number + 1) (map f (drop (i + 1) xs)))
front_reading f xs i d state number within = ap (λ ls. lines_reading state number (map f ls)) (drop_more xs i d within)
