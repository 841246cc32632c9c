-- A fleet of nodes that has done what the driver of scripts has done (own).
use Rattle.std.specs.Prelude.{◌≡◌, ℕ, ◌≤◌, IfSome, List, [], filter, length, reverse, slice_get, Option, Some}
use Rattle.std.specs.Option.{option_map_or}
use Rattle.annex_base.specs.Lists.{Each}
use Rattle.link_ring.specs.Ends.{EndView, fresh}
use Rattle.node_model.specs.Ends.{EndName}
use Rattle.node_ends.specs.Ends.{link_at}
use Rattle.joined_nodes.specs.Running.{given_of, words_at}
use Rattle.run_data.specs.declared.run.Run.{Run}
use Rattle.run_model.specs.Logs.{branch}
use Rattle.run_model.specs.Past.{begun_count, is_of, now}
use Rattle.run_model.specs.Run.{paths_at}
use Rattle.driver_model.specs.Driver.{Driver, DriverInput, newest_count, set_up_of}
use Rattle.driver_model.specs.Driving.{run_with}
use Rattle.driver_model.specs.Scripts.{HasBoundedPast}
use Rattle.driver_model.specs.Sound.{IsSound}
use Rattle.link_flights.specs.Fleets.{AreEndsIn}
use Rattle.link_flights.specs.Heard.{HeardSo}
use Rattle.link_flights.specs.Words.{AreAllWorded}
use Rattle.joined_nodes.specs.Nodes as nodes
use Rattle.joined_nodes.specs.Nodes.{NodeView}
use Rattle.fleet_model.specs.Stores.{IsStoreOf}
use Rattle.joined_nodes.specs.Stored.{StoreView}

-- the nodes in order of number, and the run of what they did
pub record FleetView (K : Type 0) : Type 0 where
  pub nodes : List (NodeView K)
  pub run : Run

-- the ends of the node of a number
abbrev pub links_at : {K : Type 0} → List (NodeView K) → ℕ → List EndView
links_at ns r = option_map_or (λ (n : NodeView _). n.parts.links) (slice_get ns r) []

-- the job of this number has begun; and if it was given paths, its key had these in the tree then
abbrev pub HasGiven : Driver → ℕ → ℕ × Option (List (List ℕ)) → Type 0
HasGiven d r x = (x.0 ≤ begun_count d.past r) × IfSome x.1 (λ paths. paths ≡ paths_at d.tree d.past r x.0)

-- The node is what the driver says of r: its history has the entries of r, in order; its branch is that of r, and its store has the
-- contents, the parts and the failing calls of r. It knows no later time and no greater count than that of the newest entry, and
-- its jobs heard the words that the past tells; its drops were given the paths that their keys had as they began.
pub record IsNodeOf {K : Type 0} (tells : K → StoreView) (g : DriverInput) (d : Driver) (r : ℕ) (n : NodeView K) : Type 0 where
  pub setup : nodes.MatchesSetup n.setup (set_up_of g d r)
  pub history : n.history ≡ reverse (filter (is_of r) d.past)
  pub branch : n.branch ≡ branch d.past r
  pub store : IsStoreOf d r (tells n.keeper)
  pub time : n.time ≤ now d.past
  pub count : n.count ≤ newest_count d.past
  pub heard : HeardSo d.past r (words_at n.parts.jobs.running)
  pub paths : Each (λ j. HasGiven d r (given_of j)) n.parts.jobs.running

-- the ends that each has at itself were never used
abbrev pub AreUnused : (ℕ → List EndView) → Type 0
AreUnused ends = (q : ℕ) (a : EndName) (v : EndView) → a.peer ≡ q → link_at (ends q) a ≡ Some v → v ≡ fresh

-- The fleet has come to where the driver is: its run is the driver's, which is sound and within the bounds of a run; each repository
-- has its node, and the frames at their ends are the driver's flights,
-- with the words that their senders found.
pub record HasCome {K : Type 0} (tells : K → StoreView) (g : DriverInput) (d : Driver) (f : FleetView K) : Type 0 where
  pub run : f.run ≡ run_with g d
  pub sound : IsSound g d
  pub fits : HasBoundedPast d
  pub count : length f.nodes ≡ length g.repos
  pub each : (r : ℕ) (n : NodeView K) → slice_get f.nodes r ≡ Some n → IsNodeOf tells g d r n
  pub ends : AreEndsIn d.flights (length g.repos) (links_at f.nodes)
  pub words : AreAllWorded d.past (length g.repos) (links_at f.nodes)
  pub selves : AreUnused (links_at f.nodes)
