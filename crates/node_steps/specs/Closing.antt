-- The ends of a node's connections are closed, each by one entry (own).
use Rattle.std.specs.Prelude.{◌≡◌, ◌⊎◌, ℕ, ◌+◌, true, false, Bool, List, [], ◌∷◌, ◌++◌, filter, length, nat_lt, Option, Some, None}
use Rattle.std.specs.Option.{ForSome}
use Rattle.run_data.specs.Histories.{most_entries}
use Rattle.run_data.specs.declared.entry.Entry.{Entry}
use Rattle.run_data.specs.declared.entry.EntryKind.TheVariants.{Close}
use Rattle.run_data.specs.declared.entry.FrameText.TheVariants.{Closing}
use Rattle.object_store.specs.Stores.{Contents}
use Rattle.link_ring.specs.Ends.{EndView}
use Rattle.node_model.specs.AnyTime.{ends_with}
use Rattle.node_model.specs.Ends.{EndName, frames}
use Rattle.node_model.specs.SetUp.{SetUp}
use Rattle.node_ends.specs.Ends.{end_at}
use Rattle.node_ends.specs.Going.{AreAfter}
use Rattle.node_parts.specs.Posting.{PostsPieces}
use Rattle.node_steps.specs.Nodes.{MatchesSetup, NodeView}
use Rattle.node_steps.specs.Turning.{stamp_then}

-- the entry of the close of this end
abbrev pub close_entry : {K : Type 0} → NodeView K → EndName → Entry
close_entry n a = record {
  time = n.time;
  count = n.count + 1;
  repo = Some n.setup.number;
  kind = Close a.peer a.slot a.client;
  taken = None;
  sent = frames a (end_at n.parts.links a) (Closing ∷ []);
  lines = [];
}

-- The end was open, and the node has the entry of its close. Its ends sent that Close, with the entry's stamp, and nothing else; its
-- jobs, its branch, its store and what it owes are as they were.
pub record Closes {K : Type 0} (a : EndName) (was now : NodeView K) : Type 0 where
  pub opened : (end_at was.parts.links a).opened ≡ true
  pub node : now ≡ record was { parts = now.parts; count = was.count + 1; history = was.history ++ close_entry was a ∷ [] }
  pub jobs : now.parts.jobs ≡ was.parts.jobs
  pub ends : AreAfter was.parts.links now.parts.links None (frames a (end_at was.parts.links a) (Closing ∷ []))
  pub posts : (known : Option Contents) → PostsPieces (stamp_then was) (Close a.peer a.slot a.client) was.parts known now.parts.links None (frames a (end_at was.parts.links a) (Closing ∷ []))

-- the node is as it was, and where its store tells, the end isn't open
pub record LeavesShut {K : Type 0} (told : Option Contents) (a : EndName) (was now : NodeView K) : Type 0 where
  pub node : now ≡ was
  pub shut : ForSome told (λ c. (s : SetUp) → MatchesSetup was.setup s → (end_at was.parts.links a).opened ≡ false)

-- each of these ends that is open is closed, one after the other
abbrev pub ClosesEach : {K : Type 0} → Option Contents → List EndName → NodeView K → NodeView K → Type 0
ClosesEach told [] was now = now ≡ was
ClosesEach {K} told (a ∷ ends) was now = (mid : NodeView K) × (Closes a was mid ⊎ LeavesShut told a was mid) × ClosesEach told ends mid now

-- how many of these ends are open
abbrev pub open_count : List EndView → List EndName → ℕ
open_count links ends = length (filter (λ a. (end_at links a).opened) ends)

-- the ends of the connections with this repository, in order of side, the client's first, and of slot
abbrev pub ends_to : ℕ → List EndName
ends_to peer = ends_with peer true ++ ends_with peer false

-- more of them are open than there are places left in the history
abbrev pub lacks_places : {K : Type 0} → NodeView K → ℕ → Bool
lacks_places n peer = nat_lt most_entries (length n.history + open_count n.parts.links (ends_to peer))
