-- Which calls of its store a direct call of a node makes, which of them fails, and what it has done by then (own).
use Rattle.std.specs.Prelude.{◌≡◌, ℕ, Bool, true, false, if◌then◌else◌, List, [], ◌∷◌, length, Option, None, option_map}
use Rattle.annex_base.specs.declared.kinds.Call.{Call}
use Rattle.annex_base.specs.declared.kinds.Call.TheVariants as calls
use Rattle.object_store.specs.Stores.{Contents, Parts, with_at}
use Rattle.content_lock.specs.Rows.{Rows}
use Rattle.run_data.specs.Histories.{most_entries}
use Rattle.node_model.specs.AnyTime.{is_scripts}
use Rattle.node_past.specs.declared.refused.NodeRefused.{NodeRefused}
use Rattle.content_lock.specs.CallsMade.{MakesCalls}
use Rattle.node_steps.specs.Nodes.{NodeView}
use Rattle.store_entries.specs.Placing.{IsTaken}
use Rattle.repo_node.specs.Placing.{with_content}
use Rattle.node_ledger.specs.Placing.{with_gain}
use Rattle.node_ledger.specs.Refusals.{RefusesSo}
use Rattle.node_ledger.specs.Walks.{over}
use Rattle.store_entries.specs.Calls.{parts_at}
use Rattle.node_past.specs.Calls.{StopsIn}
pub use Rattle.node_past.specs.Calls.{Makes, StopsIn, refusal_of, to_write}
pub use Rattle.store_entries.specs.Calls.{parts_at, to_place, to_place_part}
pub use Rattle.node_ledger.specs.Calls.{MeetsFull, lacks_of, lacks_some, shrinks, shrinks_at, to_compact, to_log, to_merge}

-- the contents then, where the store tells contents and parts
abbrev pub contents_at : Call → List ℕ → List ℕ → Option Contents → Option Parts → Option Contents
contents_at calls.PutFile key bytes known parts = with_content known parts key bytes
contents_at call key bytes known parts = known

-- the node then
abbrev pub node_at : {K : Type 0} → Call → List ℕ → List ℕ → NodeView K → NodeView K
node_at calls.PutFile key bytes n = with_gain n n.keeper key (length bytes)
node_at call key bytes n = n

-- Such a step is done, over a store that told this and tells this: its calls were made, and where the content was not there nor
-- being filled, the key's part has these bytes.
pub record IsDoneBy (made : Bool → List Call) (key bytes : List ℕ) (rows : Rows) (cs : Option Contents) (ps ps' : Option Parts) (failing failing' : Option (Call → ℕ)) : Type 0 where
  pub taken : Bool
  pub told : IsTaken taken cs rows key
  pub calls : MakesCalls (made taken) None failing failing'
  pub parts : ps' ≡ (if taken then ps else option_map (λ p. with_at p key bytes) ps)

-- Such a step with these bytes was refused at this call: what it did before stands, and nothing else is done.
pub record StopsAt {K : Type 0} (made : Bool → List Call) (key bytes : List ℕ) (cs cs' : Option Contents) (ps ps' : Option Parts) (failing failing' : Option (Call → ℕ)) (e : NodeRefused) (was now : NodeView K) : Type 0 where
  pub call : Call
  pub scripts : is_scripts call ≡ true
  pub taken : Bool
  pub told : IsTaken taken cs was.parts.table key
  pub calls : StopsIn (made taken) call e failing failing'
  pub refused : RefusesSo e call (node_at call key bytes was) now
  pub contents : cs' ≡ contents_at call key bytes cs ps
  pub parts : ps' ≡ option_map (parts_at call key bytes) ps

-- A step that places a content has placed it, by calls that went well, and met a full history before the line that says so.
pub record MeetsFullBehind {K : Type 0} (key bytes : List ℕ) (known : Option Contents) (failing failing' : Option (Call → ℕ)) (was now : NodeView K) : Type 0 where
  pub free : IsTaken false known was.parts.table key
  pub calls : MakesCalls (calls.Has ∷ calls.DropPart ∷ calls.Append ∷ calls.Commit ∷ []) None failing failing'
  pub node : now ≡ over now.keeper (with_gain was was.keeper key (length bytes))
  pub full : length now.history ≡ most_entries
