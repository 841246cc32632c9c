-- Frames are carried between one node and those below a number; for private contracts.
use Rattle.std.specs.Prelude.{◌≡◌, ◌≢◌, ◌⊎◌, ℕ, ◌≤◌, ◌<◌, Bool, not, List, length, Some, slice_get}
use Rattle.link_ring.specs.Ends.{EndView}
use Rattle.node_model.specs.Ends.{EndName}
use Rattle.node_ends.specs.Ends.{link_at}
use Rattle.node_ends.specs.Joined.{AreCarried, end_with, link_carried}
use Rattle.repo_node.specs.Nodes.{NodeView}
use Rattle.joined_nodes.specs.Joined.{AreNodes, with_links}

-- ---- two nodes

-- a node, of number i, after frames were carried between it and this other one, of number j
pub record IsCarried {K : Type 0} (i j : ℕ) (other was now : NodeView K) : Type 0 where
  pub rest : now ≡ with_links was now.parts.links
  pub links : AreCarried i j was.parts.links now.parts.links other.parts.links

-- the nodes after frames were carried between the two of these numbers
pub record AreCarriedTwo {K : Type 0} (i j : ℕ) (was now : List (NodeView K)) : Type 0 where
  pub count : length now ≡ length was
  pub others : (k : ℕ) → k ≢ i → k ≢ j → slice_get now k ≡ slice_get was k
  pub first : (a b x : NodeView K) → slice_get was i ≡ Some a → slice_get was j ≡ Some b → slice_get now i ≡ Some x → IsCarried i j b a x
  pub second : (a b y : NodeView K) → slice_get was i ≡ Some a → slice_get was j ≡ Some b → slice_get now j ≡ Some y → IsCarried j i a b y

-- the same, where they are two
abbrev pub AreCarriedWith : {K : Type 0} → ℕ → ℕ → List (NodeView K) → List (NodeView K) → Type 0
AreCarriedWith {K} repo other was now = ((other ≡ repo → now ≡ was) × (other ≢ repo → AreCarriedTwo repo other was now)) × AreNodes now

-- ---- one node and those below a number

-- its links
pub record LinksCarriedTo {K : Type 0} (n repo : ℕ) (nodes : List (NodeView K)) (was now : List EndView) : Type 0 where
  pub count : length now ≡ length was
  pub carried : (i : ℕ) (x : NodeView K) → i < n → i ≢ repo → slice_get nodes i ≡ Some x → (slot : ℕ) (client : Bool) → slot < 4 → link_at now (end_with i slot client) ≡ link_carried (link_at was (end_with i slot client)) (link_at x.parts.links (end_with repo slot (not client)))
  pub others : (x : EndName) → (x.peer ≡ repo) ⊎ (n ≤ x.peer) → link_at now x ≡ link_at was x

-- the nodes
pub record AreCarriedTo {K : Type 0} (n repo : ℕ) (was now : List (NodeView K)) : Type 0 where
  pub count : length now ≡ length was
  pub rest : (a x : NodeView K) → slice_get was repo ≡ Some a → slice_get now repo ≡ Some x → x ≡ with_links a x.parts.links
  pub links : (a x : NodeView K) → slice_get was repo ≡ Some a → slice_get now repo ≡ Some x → LinksCarriedTo n repo was a.parts.links x.parts.links
  pub done : (i : ℕ) (a b y : NodeView K) → i < n → i ≢ repo → slice_get was repo ≡ Some a → slice_get was i ≡ Some b → slice_get now i ≡ Some y → IsCarried i repo a b y
  pub later : (i : ℕ) → n ≤ i → i ≢ repo → slice_get now i ≡ slice_get was i
  pub nodes : AreNodes now
