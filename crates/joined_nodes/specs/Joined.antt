-- The nodes of a run, each two of which are joined (own).
use Rattle.std.specs.Prelude.{◌≡◌, ◌≢◌, ◌⊎◌, ℕ, ◌*◌, ◌≤◌, ◌<◌, ◌^◌, Bool, not, List, [], length, map, replicate, AllPairs, Some, slice_get}
use Rattle.annex_base.specs.Lists.{Each}
use Rattle.link_ring.specs.Ends.{EndView, fresh}
use Rattle.node_model.specs.Ends.{EndName}
use Rattle.node_ends.specs.Ends.{link_at}
use Rattle.node_ends.specs.Joined.{AreJoined, end_with, link_carried}
use Rattle.run_data.specs.Repos.{IsSetUp}
use Rattle.run_data.specs.declared.run.RepoView.{RepoView}
use Rattle.node_past.specs.declared.setup.Setup.{Setup}
use Rattle.repo_node.specs.Nodes.{NodeView}

-- ---- the repositories of a run

-- their identifiers, in order
abbrev pub ids_of : List RepoView → List (List ℕ)
ids_of repos = map (λ repo. repo.id) repos

-- these repositories may make a run: no two have one identifier
pub record MayRun (repos : List RepoView) : Type 0 where
  pub few : length repos < 2 ^ 32
  pub each : Each IsSetUp repos
  pub apart : AllPairs (λ a b. a ≢ b) (ids_of repos)

-- what the repository of this number is given, among those with these identifiers
abbrev pub setup_of : List (List ℕ) → ℕ → RepoView → Setup
setup_of ids number repo = record { number = number; id = repo.id; offset = repo.offset; version = repo.version; locks = repo.locks; repos = ids }

-- ---- nodes before their first entry

-- a node of this set-up over this store, which has made no entry; its ends were never open
pub record IsNew {K : Type 0} (setup : Setup) (keeper : K) (n : NodeView K) : Type 0 where
  pub node : n ≡ record { setup = setup; keeper = keeper; parts = n.parts; branch = []; time = 0; count = 0; clock = record { at = 0; to = setup.offset }; history = []; outcomes = []; owed = [] }
  pub table : n.parts.table ≡ record { holds = []; bars = []; fills = [] }
  pub links : n.parts.links ≡ replicate (length setup.repos * 8) fresh
  pub jobs : n.parts.jobs ≡ record { place = record { number = setup.number; ids = setup.repos }; running = []; begun = 0 }

-- each repository has such a node, over the store at its place
pub record AreNew {K : Type 0} (repos : List RepoView) (keepers : List K) (nodes : List (NodeView K)) : Type 0 where
  pub count : length nodes ≡ length repos
  pub each : (i : ℕ) (repo : RepoView) (keeper : K) (n : NodeView K) → slice_get repos i ≡ Some repo → slice_get keepers i ≡ Some keeper → slice_get nodes i ≡ Some n → IsNew (setup_of (ids_of repos) i repo) keeper n

-- ---- nodes

-- each has its place as its number, knows as many repositories as there are nodes, and is joined with each other one
pub record AreNodes {K : Type 0} (nodes : List (NodeView K)) : Type 0 where
  pub numbers : (i : ℕ) (n : NodeView K) → slice_get nodes i ≡ Some n → n.setup.number ≡ i
  pub counts : (i : ℕ) (n : NodeView K) → slice_get nodes i ≡ Some n → length n.setup.repos ≡ length nodes
  pub joined : (i j : ℕ) (a b : NodeView K) → i ≢ j → slice_get nodes i ≡ Some a → slice_get nodes j ≡ Some b → AreJoined i j a.parts.links b.parts.links

-- this holds of the node of this number as it was and as it is now
abbrev pub AtNode : {K : Type 0} → ℕ → List (NodeView K) → List (NodeView K) → (NodeView K → NodeView K → Type 0) → Type 0
AtNode {K} repo was now Holds = (n m : NodeView K) → slice_get was repo ≡ Some n → slice_get now repo ≡ Some m → Holds n m

-- ---- frames are carried

-- the node with these links
abbrev pub with_links : {K : Type 0} → NodeView K → List EndView → NodeView K
with_links n links = record n { parts = record n.parts { links = links } }

-- the links of the node of this number after frames were carried between it and each other one of these
pub record AreAllCarried {K : Type 0} (repo : ℕ) (nodes : List (NodeView K)) (was now : List EndView) : Type 0 where
  pub count : length now ≡ length was
  pub carried : (i : ℕ) (n : NodeView K) → i ≢ repo → slice_get nodes i ≡ Some n → (slot : ℕ) (client : Bool) → slot < 4 → link_at now (end_with i slot client) ≡ link_carried (link_at was (end_with i slot client)) (link_at n.parts.links (end_with repo slot (not client)))
  pub others : (x : EndName) → (x.peer ≡ repo) ⊎ (length nodes ≤ x.peer) → link_at now x ≡ link_at was x
