-- What holds at each turn of the loops of `place::identifiers`.
use Rattle.std.proofs.Common.{◌≡◌, map, take}
use Rattle.step_state.proofs.place.identifiers.Given as goal

-- the identifiers of the repositories so far
abbrev pub invariant-loop-repo : goal.invariant-loop-repo
invariant-loop-repo l = l.ids.items ≡ map (λ repo. repo.id) (take l.repo-index l.repos)
