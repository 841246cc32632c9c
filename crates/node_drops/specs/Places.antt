-- What jobs know of their repository's set-up (own).
use Rattle.std.specs.Prelude.{◌≡◌, ℕ, List, map}
use Rattle.run_data.specs.declared.run.RepoView.{RepoView}
use Rattle.node_model.specs.SetUp.{SetUp}

-- its number, and the identifiers of all repositories in order of number
pub record PlaceView : Type 0 where
  pub number : ℕ
  pub ids : List (List ℕ)

-- it is that of this set-up
pub record IsPlace (p : PlaceView) (s : SetUp) : Type 0 where
  pub number : s.number ≡ p.number
  pub ids : map (λ (repo : RepoView). repo.id) s.repos ≡ p.ids
