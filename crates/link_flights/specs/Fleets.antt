-- The ends of all repositories, and what a turn of one of them makes of them (own).
use Rattle.std.specs.Prelude.{◌≡◌, ◌≢◌, ◌<◌, ℕ, Bool, not, List, Option, Some}
use Rattle.std.specs.Option.{option_map}
use Rattle.annex_base.specs.Lists.{Member}
use Rattle.annex_base.specs.declared.kinds.EntryStamp.{EntryStamp}
use Rattle.annex_base.specs.declared.kinds.Word.{Word}
use Rattle.link_ring.specs.Ends.{EndView}
use Rattle.run_data.specs.declared.entry.Entry.{Entry}
use Rattle.node_model.specs.AnyTime.{all_ends}
use Rattle.node_model.specs.Ends.{EndName}
use Rattle.node_model.specs.SetUp.{SetUp}
use Rattle.node_model.specs.State.{State}
use Rattle.node_ends.specs.declared.sending.Sending.{Sending}
use Rattle.node_ends.specs.Ends.{link_at}
use Rattle.node_ends.specs.Joined.{end_with, link_carried}
use Rattle.driver_model.specs.Driver.{Driver, Flight}
use Rattle.link_flights.specs.Entries.{PostsAt, link_after}
use Rattle.link_flights.specs.Flights.{IsEndIn}

-- the ends of one repository are as these flights tell
abbrev pub AreOwnEndsIn : List Flight → SetUp → List EndView → Type 0
AreOwnEndsIn xs s links = (a : EndName) (v : EndView) → Member a (all_ends s) → link_at links a ≡ Some v → IsEndIn xs s.number a v

-- the ends that so many repositories have at each other are as these flights tell
abbrev pub AreEndsIn : List Flight → ℕ → (ℕ → List EndView) → Type 0
AreEndsIn xs count ends = (q : ℕ) (a : EndName) (v : EndView) → q < count → a.peer < count → a.peer ≢ q → link_at (ends q) a ≡ Some v → IsEndIn xs q a v

-- Frames were carried between the ends of r, which were these, and those of each other repository.
pub record AreAllCarried (count r : ℕ) (mine : List EndView) (was now : ℕ → List EndView) : Type 0 where
  pub own : (q slot : ℕ) (client : Bool) → q < count → q ≢ r → slot < 4 → link_at (now r) (end_with q slot client) ≡ link_carried (link_at mine (end_with q slot client)) (link_at (was q) (end_with r slot (not client)))
  pub theirs : (q slot : ℕ) (client : Bool) → q < count → q ≢ r → slot < 4 → link_at (now q) (end_with r slot client) ≡ link_carried (link_at (was q) (end_with r slot client)) (link_at mine (end_with q slot (not client)))
  pub others : (q : ℕ) (b : EndName) → q < count → q ≢ r → b.peer ≢ r → link_at (now q) b ≡ link_at (was q) b

-- The entry of a repository took and sent at its ends as the definition does; this was said at each, and these they became.
pub record PostsAsDefined (s : SetUp) (st : State) (d : Driver) (sender : EntryStamp) (word : EndName → Sending → Option Word) (said : EndName → List Sending) (was now : List EndView) (e : Entry) : Type 0 where
  pub posts : (a : EndName) (v : EndView) → Member a (all_ends s) → link_at was a ≡ Some v → PostsAt d st s.number a v e.taken e.sent (said a)
  pub links : (a : EndName) → link_at now a ≡ option_map (link_after sender (word a) a e.taken (said a)) (link_at was a)
