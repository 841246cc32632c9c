-- A node is raised before a call, and its new entries are told after it (own).
use Rattle.std.specs.Prelude.{◌≡◌, ◌≢◌, ◌⊎◌, ℕ, ◌<◌, ◌≤◌, ◌^◌, List, ◌++◌, drop, length, max, reverse, slice_get, Some}
use Rattle.annex_base.specs.Lists.{Each}
use Rattle.run_data.specs.Histories.{most_entries}
use Rattle.run_data.specs.declared.entry.Entry.{Entry}
use Rattle.run_model.specs.Past.{now}
use Rattle.run_model.specs.Run.{IsRun}
use Rattle.driver_model.specs.Driver.{newest_count}
use Rattle.fleet_model.specs.Nodes.{NodeView}
use Rattle.fleet_model.specs.Stored.{StoreView}
use Rattle.fleet_model.specs.Joined.{AtNode}
use Rattle.fleet_model.specs.Fleets.{FleetView}
use Rattle.fleet_model.specs.Turns.{IsWhole}

-- The node of r is told of the newest entry, which is within the bounds of a run; the others and the run are as they were. It is
-- whole, and it had so many entries.
pub record Raises {K : Type 0} (tells : K → StoreView) (r had : ℕ) (was after : FleetView K) : Type 0 where
  pub node : AtNode r was.nodes after.nodes (λ n m. m ≡ record n { time = max n.time (now (reverse was.run.entries)); count = max n.count (newest_count (reverse was.run.entries)) })
  pub whole : AtNode r was.nodes after.nodes (λ n m. IsWhole tells m)
  pub entries : AtNode r was.nodes after.nodes (λ n m. had ≡ length n.history)
  pub others : (q : ℕ) → q ≢ r → slice_get after.nodes q ≡ slice_get was.nodes q
  pub count : length after.nodes ≡ length was.nodes
  pub run : after.run ≡ was.run
  pub few : length was.run.entries < 2 ^ 30

-- The node is whole, and its time, its count and its history are within their bounds.
pub record StandsWithin {K : Type 0} (tells : K → StoreView) (n : NodeView K) : Type 0 where
  pub whole : IsWhole tells n
  pub time : n.time ≤ 1000000000000
  pub counted : n.count < 2 ^ 62
  pub few : length n.history ≤ most_entries

-- the run has the entries of the node of r from this place of its history on behind its own
pub record Tells {K : Type 0} (tells : K → StoreView) (r had : ℕ) (was after : FleetView K) : Type 0 where
  pub nodes : after.nodes ≡ was.nodes
  pub run : (n : NodeView K) → slice_get was.nodes r ≡ Some n → after.run ≡ record was.run { entries = was.run.entries ++ drop had n.history }
  pub node : (n : NodeView K) → slice_get was.nodes r ≡ Some n → StandsWithin tells n

-- The run has some first ones of these entries behind its own. Had it all, it were that of this fleet; where that is a run of the
-- definitions, so is it.
pub record TellsSome {K : Type 0} (tells : K → StoreView) (r had : ℕ) (was after : FleetView K) : Type 0 where
  pub all : FleetView K
  pub told : Tells tells r had was all
  pub left : (left : List Entry) × (all.run.entries ≡ after.run.entries ++ left)
  pub lawful : IsRun all.run → IsRun after.run

-- a call of a node ended with a refusal: no entry was told, or some first ones were
abbrev pub EndsShort : {K : Type 0} → (K → StoreView) → ℕ → ℕ → FleetView K → FleetView K → Type 0
EndsShort tells r had was after = (after.run ≡ was.run) ⊎ TellsSome tells r had was after

-- no node has made more entries than it may
abbrev pub AreFew : {K : Type 0} → List (NodeView K) → Type 0
AreFew nodes = Each (λ n. length n.history ≤ most_entries) nodes
