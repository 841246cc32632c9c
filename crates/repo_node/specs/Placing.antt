-- What the calls that place a content or a part make of a node (own).
use Rattle.std.specs.Prelude.{◌≡◌, ◌⊎◌, ℕ, Bool, true, if◌then◌else◌, List, length, Option, Some, None, Result, Ok, Err, MatchBool}
use Rattle.annex_base.specs.declared.kinds.Call.TheVariants.{PutFile}
use Rattle.object_store.specs.Stores.{Contents, Parts, with_at}
use Rattle.node_ledger.specs.Debts.{with_status}
use Rattle.node_steps.specs.Nodes.{NodeView}
use Rattle.node_ledger.specs.Refusals.{RefusesSo}
use Rattle.node_ledger.specs.Walks.{over}
use Rattle.node_past.specs.declared.refused.NodeRefused.{NodeRefused}
use Rattle.node_ledger.specs.Placing.{StopsBefore, with_gain}
use Rattle.store_entries.specs.Placing.{IsTaken, HasPart}
pub use Rattle.store_entries.specs.Placing.{HasPart, IsTaken, LeavesFilled, LeavesOthers}
pub use Rattle.node_ledger.specs.Placing.{StopsBefore, with_gain}

-- the contents with these bytes as the key's, where the store tells contents and parts
abbrev pub with_content : Option Contents → Option Parts → List ℕ → List ℕ → Option Contents
with_content (Some contents) (Some parts) key bytes = Some (with_at contents key (Some bytes))
with_content contents parts key bytes = None

-- the node with that entry, and then the line that says so in the key's log
abbrev pub with_placed : {K : Type 0} → NodeView K → K → List ℕ → ℕ → NodeView K
with_placed n keeper key size = with_status (with_gain n keeper key size) keeper key n.setup.number true

-- the part after a step that replaces it: it has these bytes, or where the content was there or being filled, what it had
abbrev pub PartAfter : Bool → List ℕ → List ℕ → Option Parts → Option Parts → Type 0
PartAfter taken key bytes known known' = MatchBool taken (known' ≡ known) (HasPart key bytes known known')

-- What a step that places a content makes of a node, over a store with these contents and parts and then these contents: the
-- content has come, or where it was there or being filled, nothing is done.
pub record IsPlaced {K : Type 0} (key bytes : List ℕ) (known : Option Contents) (parts : Option Parts) (known' : Option Contents) (was now : NodeView K) : Type 0 where
  pub taken : Bool
  pub told : IsTaken taken known was.parts.table key
  pub node : now ≡ (if taken then over now.keeper was else with_placed was now.keeper key (length bytes))
  pub contents : known' ≡ (if taken then known else with_content known parts key bytes)

-- the content has come, and the entry that its log says so was refused
pub record StopsBehind {K : Type 0} (key : List ℕ) (size : ℕ) (e : NodeRefused) (was now : NodeView K) : Type 0 where
  pub keeper : K
  pub refused : RefusesSo e PutFile (with_gain was keeper key size) now

-- a step that places a content was refused: the contents are as they were, or the content has come
abbrev pub StopsPlacing : {K : Type 0} → List ℕ → List ℕ → Option Contents → Option Parts → Option Contents → NodeRefused → NodeView K → NodeView K → Type 0
StopsPlacing key bytes known parts known' e was now =
    (StopsBefore e was now × (known' ≡ known)) ⊎ (StopsBehind key (length bytes) e was now × (known' ≡ with_content known parts key bytes))

-- ---- for private contracts

-- an answer without what an Ok says
abbrev pub without_said : Result Bool NodeRefused → Result (Unit {0}) NodeRefused
without_said (Ok taken) = Ok tt
without_said (Err e) = Err e
