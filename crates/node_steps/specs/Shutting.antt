-- What the close of an end leaves of a past and of the parts beside it; for private contracts.
use Rattle.std.specs.Prelude.{◌≡◌, ◌⊎◌, ◌+◌, ◌<◌, true, false, List, [], ◌∷◌, vec_capacity, vec_len, Option}
use Rattle.std.specs.declared.vec.Vec.{Vec}
use Rattle.std.specs.declared.alloc.Global.{Global}
use Rattle.run_data.specs.declared.entry.Entry.{Entry}
use Rattle.run_data.specs.declared.entry.FrameView.{FrameView}
use Rattle.object_store.specs.Stores.{Contents, Parts as StoredParts}
use Rattle.object_store.specs.declared.keeper.HoldRecord.{HoldRecord}
use Rattle.content_lock.specs.Stored.{Agrees}
use Rattle.node_model.specs.After.{state_after}
use Rattle.node_model.specs.Ends.{EndName}
use Rattle.node_model.specs.SetUp.{SetUp}
use Rattle.node_model.specs.State.{State}
use Rattle.node_ends.specs.Ends.{IsEndOf, end_at}
use Rattle.node_ends.specs.Joined.{StayPaired}
use Rattle.node_parts.specs.declared.done.Done.{Done}
use Rattle.node_parts.specs.Parts.{AreAllFed, AreParts, PartsView}
use Rattle.node_parts.specs.Posting.{PostsPieces}
use Rattle.node_parts.specs.Sound.{AreSound}
use Rattle.node_parts.specs.Steps.{Leaves, close_made, made_of}
use Rattle.node_past.specs.declared.past.Past.{Past}
use Rattle.node_past.specs.Pasts.{Enters, SamePast}

-- the end was open, and the past has the entry of its close
pub record Shuts (a : EndName) (p p' : PartsView) (was now : Past) : Type 0 where
  pub done : Done
  pub opened : (end_at p.links a).opened ≡ true
  pub made : made_of done ≡ close_made a (end_at p.links a)
  pub enters : Enters done.kind done.taken done.sent [] was now
  pub parts : (s : SetUp) (st : State) (e : Entry) → AreParts s st p → e.kind ≡ done.kind → e.taken ≡ done.taken → e.sent ≡ done.sent → AreParts s (state_after s st e) p'
  pub leaves : Leaves (vec_len was.history + 1) p p' done
  pub posts : (known : Option Contents) → PostsPieces (record { time = was.time; count = was.count + 1; repo = p.jobs.place.number }) done.kind p known p'.links done.taken done.sent
  pub fed : (q : StoredParts) → AreAllFed q p → AreAllFed q p'
  pub agrees : (known : Option (List HoldRecord)) → Agrees known p.table.holds → Agrees known p'.table.holds
  pub jobs : p'.jobs ≡ p.jobs
  pub sound : AreSound p'
  pub opens : (b : EndName) → (end_at p'.links b).opened ≡ true → (end_at p.links b).opened ≡ true
  pub paired : StayPaired p.links p'.links

-- nothing has changed, and the end isn't open, of each state that these parts are
pub record KeepsShut (a : EndName) (p p' : PartsView) (was now : Past) : Type 0 where
  pub parts : p' ≡ p
  pub past : now ≡ was
  pub shut : (s : SetUp) (st : State) → AreParts s st p → IsEndOf s a → (end_at p.links a).opened ≡ false

abbrev pub ShutsIf : EndName → PartsView → PartsView → Past → Past → Type 0
ShutsIf a p p' was now = Shuts a p p' was now ⊎ KeepsShut a p p' was now

-- these ends, one after the other
abbrev pub ShutsEach : List EndName → PartsView → PartsView → Past → Past → Type 0
ShutsEach [] p p' was now = (p' ≡ p) × (now ≡ was)
ShutsEach (a ∷ ends) p p' was now = (mid : PartsView) × (past : Past) × ShutsIf a p mid was past × ShutsEach ends mid p' past now

-- the same once the past was made ready
abbrev pub ShutsReady : List EndName → PartsView → PartsView → Past → Past → Type 0
ShutsReady ends p p' was now = (ready : Past) × SamePast was ready × ShutsEach ends p p' ready now

-- an empty list with room for a frame
pub record IsListing (v : Vec FrameView Global) : Type 0 where
  pub empty : v.items ≡ []
  pub room : vec_len v < vec_capacity v
