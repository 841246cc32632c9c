-- Numbers of copies by path: the greatest of those that match.
use Rattle.std.proofs.Common.{◌≡◌, ℕ, ◌+◌, ◌<◌, List, [], ◌∷◌, ◌++◌, length, map, max, fold, get_or, take, Option, Some, None, option_to_list, unwrap_or, refl, sym, ap, ◌∙◌}
use Rattle.std.proofs.lemmas.List.{map-append, take_more}
use Rattle.std.proofs.lemmas.List.Elements.{filter-append}
use Rattle.std.proofs.lemmas.List.Sums.{fold-append}
use Rattle.glob_match.specs.Numbers.{greatest_or, pattern_matches}
use Rattle.log_lines.specs.declared.entry.Entry.{Entry}
use Rattle.trust_groups.specs.Globs.{greater, greatest, numbers_for}
use Rattle.trust_groups.specs.Settings.{number_in, pattern_in, patterns_of}

-- ---- the greatest

greatest_step : (found o : Option ℕ) (ns : List ℕ) → greatest found (option_to_list o ++ ns) ≡ greatest (greater found o) ns
greatest_step None None ns = refl
greatest_step (Some n) None ns = refl
greatest_step found (Some m) ns = refl

greatest_some : (n : ℕ) (ns : List ℕ) → greatest (Some n) ns ≡ Some (fold max n ns)
greatest_some n [] = refl
greatest_some n (m ∷ ns) = greatest_some (max n m) ns

pub greatest_is : (whole : ℕ) (ns : List ℕ) → unwrap_or (greatest None ns) whole ≡ greatest_or whole ns
greatest_is whole [] = refl
greatest_is whole (n ∷ ns) = ap (λ (o : Option ℕ). unwrap_or o whole) (greatest_some n ns)

-- ---- entry by entry

numbers_append : (path : List ℕ) (xs ys : List (List ℕ × ℕ)) → numbers_for path (xs ++ ys) ≡ numbers_for path xs ++ numbers_for path ys
numbers_append path xs ys =
    ap (map (λ (p : List ℕ × ℕ). p.1)) (filter-append (λ p. pattern_matches p.0 path) xs ys) ∙ map-append (λ (p : List ℕ × ℕ). p.1) _ _

pub next_entry : (path : List ℕ) (e : Entry) (rest : List Entry) (found number : Option ℕ) → option_to_list number ≡ numbers_for path (pattern_in e.topic (number_in (Some e.value)))
    → greatest (greater found number) (numbers_for path (patterns_of rest)) ≡ greatest found (numbers_for path (patterns_of (e ∷ rest)))
next_entry path e rest found number is =
    sym (greatest_step found number (numbers_for path (patterns_of rest)))
    ∙ ap (λ (ns : List ℕ). greatest found (ns ++ numbers_for path (patterns_of rest))) is
    ∙ sym (ap (greatest found) (numbers_append path (pattern_in e.topic (number_in (Some e.value))) (patterns_of rest)))

-- ---- path by path

pub next_path : (f : List ℕ → ℕ) (paths : List (List ℕ)) (i : ℕ) (path : List ℕ) (found : Option ℕ) → i < length paths → path ≡ get_or paths i path → found ≡ greatest None (map f (take i paths))
    → greater found (Some (f path)) ≡ greatest None (map f (take (i + 1) paths))
next_path f paths i path found within is so_far =
    ap (λ (o : Option ℕ). greater o (Some (f path))) so_far
    ∙ sym (fold-append (λ (o : Option ℕ) (n : ℕ). greater o (Some n)) None (map f (take i paths)) (f path ∷ []))
    ∙ ap (greatest None) (sym (map-append f (take i paths) (path ∷ [])) ∙ ap (map f) (ap (λ (p : List ℕ). take i paths ++ p ∷ []) is ∙ sym (take_more paths i path within)))
