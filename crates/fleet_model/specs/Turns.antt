-- How a node stands between two turns, by its own clauses (own).
use Rattle.std.specs.Prelude.{◌<◌, ◌^◌, ℕ, length}
use Rattle.node_model.specs.SetUp.{SetUp}
use Rattle.joined_nodes.specs.Parts.{AreParts}
use Rattle.joined_nodes.specs.Sound.{AreSound}
use Rattle.joined_nodes.specs.Nodes as nodes
use Rattle.joined_nodes.specs.Nodes.{NodeView}
use Rattle.joined_nodes.specs.Stored.{StoreView}
use Rattle.driver_model.specs.Driver.{Driver, DriverInput, set_up_of}

-- What the node has is the state that its history leaves; and its sessions and jobs have what is theirs of its table and its ends.
pub record IsWhole {K : Type 0} (tells : K → StoreView) (n : NodeView K) : Type 0 where
  pub state : (s : SetUp) → nodes.MatchesSetup n.setup s → nodes.IsState s n.parts n.branch n.owed (nodes.told_of (tells n.keeper).contents (tells n.keeper).parts) (nodes.state_of s n.history)
  pub sound : AreSound n.parts

-- the repository has such a node; and numbers are left for the frames of its ends
pub record StandsWell {K : Type 0} (g : DriverInput) (d : Driver) (r : ℕ) (n : NodeView K) : Type 0 where
  pub known : r < length g.repos
  pub few : length d.past < 2 ^ 30
  pub parts : AreParts (set_up_of g d r) (nodes.state_of (set_up_of g d r) n.history) n.parts
  pub sound : AreSound n.parts
