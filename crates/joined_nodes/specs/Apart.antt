-- How it is found that no two repositories have one identifier; for private contracts.
use Rattle.std.specs.Prelude.{ℕ, Bool, true, not, ◌&&◌, List, [], ◌∷◌, bytes_eq}
use Rattle.std.specs.List.{list_any}
use Rattle.run_data.specs.declared.run.RepoView.{RepoView}

-- one of the repositories has the identifier
abbrev pub is_among : List ℕ → List RepoView → Bool
is_among id repos = list_any (λ repo. bytes_eq repo.id id) repos

-- no two have one identifier
abbrev pub are_apart : List RepoView → Bool
are_apart [] = true
are_apart (repo ∷ repos) = not (is_among repo.id repos) && are_apart repos
