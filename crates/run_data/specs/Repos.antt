-- How the repositories of a run are set up.
use Rattle.std.specs.Prelude.{ℕ, zero, suc, ◌≤◌, Bool, true, ◌==◌, List, [], ◌∷◌, Option, Some, None}
use Rattle.annex_base.specs.RepoText.{IsId}
use Rattle.run_data.specs.declared.run.RepoView.{RepoView}

-- how far the wall clock of a repository is ahead of the script's time
abbrev pub offset_of : List RepoView → ℕ → ℕ
offset_of [] r = 0
offset_of (x ∷ xs) zero = x.offset
offset_of (x ∷ xs) (suc r) = offset_of xs r

-- the identifier of a repository
abbrev pub id_of : List RepoView → ℕ → List ℕ
id_of [] r = []
id_of (x ∷ xs) zero = x.id
id_of (x ∷ xs) (suc r) = id_of xs r

-- a content of this many bytes may be the key's: the key says this size, or none
abbrev pub fits_size : Option ℕ → ℕ → Bool
fits_size None n = true
fits_size (Some size) n = size == n

-- a repository's set-up is within its bounds
pub record IsSetUp (repo : RepoView) : Type 0 where
  pub id : IsId repo.id
  pub offset : repo.offset ≤ 100000000000
  pub oldest : 1 ≤ repo.version
  pub newest : repo.version ≤ 3
