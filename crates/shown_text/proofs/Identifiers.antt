-- The identifiers of the repositories of a run.
use Rattle.std.proofs.Common.{◌≡◌, ℕ, zero, suc, ◌<◌, List, [], ◌∷◌, length, get_or, refl, arith}
use Rattle.run_data.specs.declared.run.RepoView.{RepoView}
use Rattle.run_data.specs.Repos.{id_of}

-- that of the repository at a place
pub id_at : (repos : List RepoView) (r : ℕ) (d : RepoView) → r < length repos → (get_or repos r d).id ≡ id_of repos r
id_at [] r d within = absurd (omega (arith, within))
id_at (x ∷ xs) zero d within = refl
id_at (x ∷ xs) (suc r) d within = id_at xs r d (omega (arith, within))
