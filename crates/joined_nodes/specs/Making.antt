-- Nodes as they are made, one after the other; for private contracts.
use Rattle.std.specs.Prelude.{◌≡◌, ℕ, ◌*◌, List, [], ◌∷◌, ◌++◌, Some, length, replicate, slice_get}
use Rattle.link_ring.specs.Ends.{fresh}
use Rattle.link_ring.specs.declared.links.Links.{Links}
use Rattle.run_data.specs.declared.run.RepoView.{RepoView}
use Rattle.repo_node.specs.Nodes.{NodeView}
use Rattle.joined_nodes.specs.Joined.{IsNew, ids_of, setup_of}

-- one more node, of the next one of the repositories, over this store
pub record AddsNew {K : Type 0} (repos : List RepoView) (keeper : K) (was now : List (NodeView K)) : Type 0 where
  pub node : NodeView K
  pub adds : now ≡ was ++ node ∷ []
  pub new : (repo : RepoView) → slice_get repos (length was) ≡ Some repo → IsNew (setup_of (ids_of repos) (length was) repo) keeper node

-- the first of the repositories have such nodes, over these stores
pub record AreNewSoFar {K : Type 0} (repos : List RepoView) (keepers : List K) (nodes : List (NodeView K)) : Type 0 where
  pub count : length nodes ≡ length keepers
  pub each : (i : ℕ) (repo : RepoView) (keeper : K) (n : NodeView K) → slice_get repos i ≡ Some repo → slice_get keepers i ≡ Some keeper → slice_get nodes i ≡ Some n → IsNew (setup_of (ids_of repos) i repo) keeper n

-- links of a repository that were never open, among so many
abbrev pub AreFresh : ℕ → Links → Type 0
AreFresh count l = l.ends.items ≡ replicate (count * 8) fresh
