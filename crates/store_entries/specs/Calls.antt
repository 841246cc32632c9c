-- Which calls of its store a step makes that places a content or a part, and what it has done by each (own).
use Rattle.std.specs.Prelude.{◌≡◌, ℕ, Bool, true, false, List, [], ◌∷◌, Option, option_map}
use Rattle.annex_base.specs.declared.kinds.Call.{Call}
use Rattle.annex_base.specs.declared.kinds.Call.TheVariants as calls
use Rattle.object_store.specs.Stores.{Parts, with_at}
use Rattle.run_data.specs.declared.entry.By.TheVariants.{Script}
use Rattle.node_past.specs.declared.past.Past.{Past}
use Rattle.node_past.specs.declared.refused.NodeRefused.{NodeRefused}
use Rattle.node_past.specs.Pasts.{FailsFor}
use Rattle.node_past.specs.Calls.{StopsIn}

-- ---- contents and parts

-- the calls that place a content, where it is there or being filled, or isn't
abbrev pub to_place : Bool → List Call
to_place true = calls.Has ∷ []
to_place false = calls.Has ∷ calls.DropPart ∷ calls.Append ∷ calls.Commit ∷ calls.PutFile ∷ []

-- the calls that replace a part, likewise
abbrev pub to_place_part : Bool → List Call
to_place_part true = calls.Has ∷ []
to_place_part false = calls.Has ∷ calls.DropPart ∷ calls.Append ∷ []

-- the parts when such a step, with these bytes for the key, comes to this call
abbrev pub parts_at : Call → List ℕ → List ℕ → Parts → Parts
parts_at calls.Append key bytes parts = with_at parts key []
parts_at calls.Commit key bytes parts = with_at parts key bytes
parts_at calls.PutFile key bytes parts = with_at parts key []
parts_at call key bytes parts = parts

-- ---- for private contracts

-- a call that comes before the content
abbrev pub is_early : Call → Bool
is_early calls.Has = true
is_early calls.DropPart = true
is_early calls.Append = true
is_early call = false

-- A step that makes these calls, and puts these bytes into the key's part, was refused at one of them, of which this is said.
pub record StopsWhere (made : List Call) (key bytes : List ℕ) (ps ps' : Option Parts) (failing failing' : Option (Call → ℕ)) (e : NodeRefused) (Refused : Call → Type 0) : Type 0 where
  pub call : Call
  pub early : is_early call ≡ true
  pub calls : StopsIn made call e failing failing'
  pub fails : Refused call
  pub parts : ps' ≡ option_map (parts_at call key bytes) ps

-- of a past
abbrev pub StopsEarly : List Call → List ℕ → List ℕ → Option Parts → Option Parts → Option (Call → ℕ) → Option (Call → ℕ) → NodeRefused → Past → Past → Type 0
StopsEarly made key bytes ps ps' failing failing' e was now = StopsWhere made key bytes ps ps' failing failing' e (λ call. FailsFor Script e call was now)
