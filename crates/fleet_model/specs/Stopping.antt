-- How long the histories of a fleet's nodes are (own).
use Rattle.std.specs.Prelude.{◌≡◌, ◌≢◌, ◌≤◌, ℕ, List, length, slice_get, Some}
use Rattle.run_data.specs.Histories.{most_entries}
use Rattle.joined_nodes.specs.Nodes.{NodeView}

-- no node but that of r has made more entries than it may
abbrev pub OthersAreFew : {K : Type 0} → ℕ → List (NodeView K) → Type 0
OthersAreFew {K} r nodes = (q : ℕ) (x : NodeView K) → q ≢ r → slice_get nodes q ≡ Some x → length x.history ≤ most_entries
