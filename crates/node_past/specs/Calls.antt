-- Which calls of its store a step makes, and which of them failed (own).
use Rattle.std.specs.Prelude.{◌≡◌, ℕ, Bool, true, false, List, [], ◌∷◌, Option, Some, None, Result, Ok, Err}
use Rattle.annex_base.specs.declared.kinds.Call.{Call}
use Rattle.annex_base.specs.declared.kinds.Call.TheVariants as calls
use Rattle.object_store.specs.declared.keeper.KeeperFault.{KeeperFault}
use Rattle.object_store.specs.declared.keeper.KeeperFault.TheVariants as faults
use Rattle.node_past.specs.declared.refused.NodeRefused.{NodeRefused}
use Rattle.node_past.specs.declared.refused.NodeRefused.TheVariants as refusals
use Rattle.content_lock.specs.CallsMade.{MakesCalls}

-- the refusal for such a fault of the store
abbrev pub refusal_of : KeeperFault → NodeRefused
refusal_of faults.Failed = refusals.StoreFault
refusal_of faults.NoMemory = refusals.NoMemory

-- a step that makes these calls one after the other was refused at this one: where the store failed, it was this call, and else none has failed
abbrev pub StopsIn : List Call → Call → NodeRefused → Option (Call → ℕ) → Option (Call → ℕ) → Type 0
StopsIn made call refusals.StoreFault before after = MakesCalls made (Some call) before after
StopsIn made call e before after = after ≡ before

-- a step that makes these calls of its store one after the other, of which only this one may fail
abbrev pub Makes : {X : Type 0} → List Call → Call → Result X NodeRefused → Option (Call → ℕ) → Option (Call → ℕ) → Type 0
Makes made call (Ok x) before after = MakesCalls made None before after
Makes made call (Err e) before after = StopsIn made call e before after

-- a file is written, if so; where several are written, none of them is to fail unless the first is
abbrev pub to_write : Bool → List Call
to_write true = calls.PutFile ∷ []
to_write false = []
