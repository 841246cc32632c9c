-- The repositories of a run, in order of number.
use Rattle.std.proofs.Common.{◌≡◌, ℕ, zero, suc, ◌+◌, ◌<◌, List, [], ◌∷◌, ◌++◌, length, get_or, map, take, refl, sym, ap, ◌∙◌, arith}
use Rattle.std.proofs.lemmas.List.{map-append, take_more}
use Rattle.run_data.specs.declared.run.RepoView.{RepoView}
use Rattle.run_data.specs.Repos.{offset_of}

pub offset_at : (repos : List RepoView) (r : ℕ) (d : RepoView) → r < length repos → (get_or repos r d).offset ≡ offset_of repos r
offset_at [] r d within = absurd (omega (arith, within))
offset_at (x ∷ xs) zero d within = refl
offset_at (x ∷ xs) (suc r) d within = offset_at xs r d (omega (arith, within))

-- one more identifier
pub next_id : (repos : List RepoView) (i : ℕ) (repo : RepoView) (ids new : List (List ℕ)) → i < length repos → repo ≡ get_or repos i repo → ids ≡ map (λ r. r.id) (take i repos)
    → new ≡ ids ++ repo.id ∷ [] → new ≡ map (λ r. r.id) (take (i + 1) repos)
next_id repos i repo ids new within at so_far is =
    is
    ∙ ap (λ (xs : List (List ℕ)). xs ++ repo.id ∷ []) so_far
    ∙ sym (map-append (λ (r : RepoView). r.id) (take i repos) (repo ∷ []))
    ∙ ap (map (λ (r : RepoView). r.id)) (ap (λ (r : RepoView). take i repos ++ r ∷ []) at ∙ sym (take_more repos i repo within))
