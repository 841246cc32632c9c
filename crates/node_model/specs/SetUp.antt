-- What a repository is given before its first entry, and how it stands to the others.
use Rattle.std.specs.Prelude.{ℕ, Bool, true, List, [], ◌∷◌, flat_map, length, map, Option, Some, None, slice_get}
use Rattle.std.specs.List.{range_with_len}
use Rattle.run_data.specs.declared.run.RepoView.{RepoView}
use Rattle.node_model.specs.Evidence.{but}

-- a repository among those of a run, with the paths that the key of each of its begun jobs had in the tree as it began
pub record SetUp : Type 0 where
  pub number : ℕ
  pub repos : List RepoView
  pub paths : ℕ → List (List ℕ)

abbrev pub version_in : Option RepoView → ℕ
version_in None = 3
version_in (Some repo) = repo.version

abbrev pub locks_in : Option RepoView → Bool
locks_in None = true
locks_in (Some repo) = repo.locks

-- the greatest version of the protocol that it speaks
abbrev pub version_of : SetUp → ℕ
version_of s = version_in (slice_get s.repos s.number)

-- whether it gives holds to its peers
abbrev pub gives_locks : SetUp → Bool
gives_locks s = locks_in (slice_get s.repos s.number)

-- the other repositories, in order of number
abbrev pub others : SetUp → List ℕ
others s = but s.number (range_with_len 0 (length s.repos))

-- the four slots of a client
abbrev pub slots : List ℕ
slots = 0 ∷ 1 ∷ 2 ∷ 3 ∷ []

-- the connections of which it is the server, by client and slot
abbrev pub served_connections : SetUp → List (ℕ × ℕ)
served_connections s = flat_map (λ peer. map (λ slot. (peer, slot)) slots) (others s)
