-- Words that are groups.
use Rattle.std.proofs.Common.{◌≡◌, ℕ, true, false, List, map, Some, None, Bor, refl, sym, ap, ◌∙◌}
use Rattle.std.specs.List.{list_all}
use Rattle.std.proofs.lemmas.List.Folds.{list_all-map}
use Rattle.log_grammar.specs.LineText.{is_group}
use Rattle.log_grammar.specs.Reading.{all_groups}

tests : (parts : List (Bor (List ℕ))) (words : List (List ℕ)) → map (λ w. w.now) parts ≡ words → list_all is_group words ≡ list_all (λ w. is_group w.now) parts
tests parts words e = sym (ap (list_all is_group) e) ∙ list_all-map is_group (λ w. w.now) parts

pub groups_some : (parts : List (Bor (List ℕ))) (words names : List (List ℕ)) → map (λ w. w.now) parts ≡ words → list_all (λ w. is_group w.now) parts ≡ true
    → names ≡ map (λ w. w.now) parts → Some names ≡ all_groups words
groups_some parts words names e all is = rw (tests parts words e ∙ all) (ap Some (is ∙ e))

pub groups_none : (parts : List (Bor (List ℕ))) (words : List (List ℕ)) → map (λ w. w.now) parts ≡ words → list_all (λ w. is_group w.now) parts ≡ false → None ≡ all_groups words
groups_none parts words e some = rw (tests parts words e ∙ some) refl
