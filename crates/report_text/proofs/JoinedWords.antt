-- Words that are the same for each item are joined alike.
use Rattle.std.proofs.Common.{◌≡◌, ℕ, List, [], ◌∷◌, ◌++◌, append_assoc, refl, ap, ◌∙◌}
use Rattle.std.specs.List.{flat_map}
use Rattle.annex_base.specs.Lists.{Each}
use Rattle.run_text.specs.Words.{joined_text}

more_alike : (f g : ℕ → List ℕ) (between : ℕ) (xs : List ℕ) → Each (λ x. f x ≡ g x) xs → flat_map (λ x. between ∷ f x) xs ≡ flat_map (λ x. between ∷ g x) xs
more_alike f g between [] same = refl
more_alike f g between (x ∷ xs) same =
    ap (λ (word : List ℕ). (between ∷ word) ++ flat_map (λ y. between ∷ f y) xs) same.0 ∙ ap (λ (rest : List ℕ). (between ∷ g x) ++ rest) (more_alike f g between xs same.1)

pub joined_alike : (f g : ℕ → List ℕ) (between : ℕ) (xs : List ℕ) → Each (λ x. f x ≡ g x) xs → joined_text between f xs ≡ joined_text between g xs
joined_alike f g between [] same = refl
joined_alike f g between (x ∷ xs) same = ap (λ (word : List ℕ). word ++ flat_map (λ y. between ∷ f y) xs) same.0 ∙ ap (λ (rest : List ℕ). g x ++ rest) (more_alike f g between xs same.1)

-- what is put behind each other stands in that order
pub in_order : (was first then last : List ℕ) → ((was ++ first) ++ then) ++ last ≡ was ++ (first ++ (then ++ last))
in_order was first then last = append_assoc (was ++ first) then last ∙ append_assoc was first (then ++ last)
