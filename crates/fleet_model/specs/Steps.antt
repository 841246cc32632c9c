-- What a call makes of one node of a fleet, and of the run (own).
use Rattle.std.specs.Prelude.{◌≡◌, ◌≢◌, ℕ, List, ◌++◌, drop, length, max, slice_get, Option, Some, None}
use Rattle.annex_base.specs.declared.kinds.Call.{Call}
use Rattle.run_data.specs.declared.entry.LogFile.{LogFile}
use Rattle.joined_nodes.specs.Logs.{with_lines}
use Rattle.joined_nodes.specs.Nodes.{NodeView}
use Rattle.joined_nodes.specs.Refusals.{RefusesSo}
use Rattle.node_past.specs.declared.refused.NodeRefused.TheVariants as refusals
use Rattle.run_model.specs.Past.{now}
use Rattle.driver_model.specs.Driver.{Driver, newest_count}
use Rattle.link_ring.specs.Ends.{EndView}
use Rattle.node_model.specs.Ends.{EndName}
use Rattle.node_ends.specs.Ends.{link_at}
use Rattle.link_flights.specs.Fleets.{AreAllCarried}
use Rattle.fleet_model.specs.Fleets.{FleetView, links_at}
use Rattle.joined_nodes.specs.Stored.{StoreView}

-- the node with the time and the count of the driver's newest entry, which are no less than its own
abbrev pub with_newest : {K : Type 0} → Driver → NodeView K → NodeView K
with_newest d n = record n { time = max n.time (now d.past); count = max n.count (newest_count d.past) }

-- The node of r, which was n, is m; the others are as they were; and the run has m's new entries behind its own.
pub record OneGoesOn {K : Type 0} (r : ℕ) (n m : NodeView K) (was after : FleetView K) : Type 0 where
  pub before : slice_get was.nodes r ≡ Some n
  pub there : slice_get after.nodes r ≡ Some m
  pub others : (q : ℕ) → q ≢ r → slice_get after.nodes q ≡ slice_get was.nodes q
  pub count : length after.nodes ≡ length was.nodes
  pub run : after.run ≡ record was.run { entries = was.run.entries ++ drop (length n.history) m.history }

-- the node has those of these lines that the file lacked; or else this call of its store failed
abbrev pub HasLogged : {K : Type 0} → LogFile → List (List ℕ) → Option Call → NodeView K → NodeView K → Type 0
HasLogged file lines None was after = after ≡ with_lines was after.keeper file lines
HasLogged file lines (Some call) was after = RefusesSo refusals.StoreFault call was after

-- the store has the contents and the parts that it had
pub record StaysStored (was after : StoreView) : Type 0 where
  pub contents : after.contents ≡ was.contents
  pub parts : after.parts ≡ was.parts

-- the node with these links
abbrev pub with_links : {K : Type 0} → NodeView K → List EndView → NodeView K
with_links n links = record n { parts = record n.parts { links = links } }

-- The node of r, which was n, came to m by a turn, by a close or by a crash, and then frames were carried between it and each other one; of these
-- nothing but their ends has changed. The run has m's new entries behind its own.
pub record OneTurns {K : Type 0} (r : ℕ) (n m : NodeView K) (was after : FleetView K) : Type 0 where
  pub before : slice_get was.nodes r ≡ Some n
  pub there : (x : NodeView K) → slice_get after.nodes r ≡ Some x → x ≡ with_links m x.parts.links
  pub others : (q : ℕ) (x : NodeView K) → q ≢ r → slice_get after.nodes q ≡ Some x → (y : NodeView K) × (slice_get was.nodes q ≡ Some y) × (x ≡ with_links y x.parts.links)
  pub count : length after.nodes ≡ length was.nodes
  pub carried : AreAllCarried (length was.nodes) r m.parts.links (links_at was.nodes) (links_at after.nodes)
  pub own : (a : EndName) → a.peer ≡ r → link_at (links_at after.nodes r) a ≡ link_at m.parts.links a
  pub run : after.run ≡ record was.run { entries = was.run.entries ++ drop (length n.history) m.history }
