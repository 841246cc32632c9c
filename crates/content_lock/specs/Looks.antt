-- What the calls of a table find: each answer and refusal with its row, in the order in which they are tested (own).
use Rattle.std.specs.Prelude.{◌≡◌, ℕ, Bool, true, false, List, Option, Some, None}
use Rattle.annex_base.specs.declared.kinds.Call.TheVariants as calls
use Rattle.node_model.specs.DropStep.{until}
use Rattle.run_data.specs.declared.row.Hold.{Hold}
use Rattle.object_store.specs.declared.keeper.KeeperFault.{KeeperFault}
use Rattle.object_store.specs.declared.keeper.KeeperFault.TheVariants as faults
use Rattle.content_lock.specs.Blocking.{Names}
use Rattle.content_lock.specs.declared.refusals.BarRefused.{BarRefused}
use Rattle.content_lock.specs.declared.refusals.BarRefused.TheVariants as bars
use Rattle.content_lock.specs.declared.refusals.Look.{Look}
use Rattle.content_lock.specs.declared.refusals.Look.TheVariants as looks
use Rattle.content_lock.specs.declared.refusals.ShareRefused.{ShareRefused}
use Rattle.content_lock.specs.declared.refusals.ShareRefused.TheVariants as shares
use Rattle.content_lock.specs.declared.refusals.RemoveRefused.{RemoveRefused}
use Rattle.content_lock.specs.declared.refusals.RemoveRefused.TheVariants as removes
use Rattle.content_lock.specs.declared.refusals.Removed.{Removed}
use Rattle.content_lock.specs.declared.refusals.Removed.TheVariants as removed

-- a row as a call finds it: what the store has, as `HasContent` says, and the bar
abbrev pub LooksSo : Look → (Bool → Type 0) → Option ℕ → Type 0
LooksSo looks.Absent has bar = has false
LooksSo (looks.Barred job) has bar = has true × (bar ≡ Some job)
LooksSo looks.Present has bar = has true × (bar ≡ None)

-- a hold needs a content and no bar; the store is asked for the content, and then told of the hold
abbrev pub NotShared : ShareRefused → (Bool → Type 0) → Option ℕ → Type 0
NotShared shares.Absent has bar = has false
NotShared (shares.Barred job) has bar = has true × (bar ≡ Some job)
NotShared (shares.StoreFault calls.Has) has bar = Unit {0}
NotShared (shares.StoreFault calls.Hold) has bar = has true × (bar ≡ None)
NotShared (shares.StoreFault call) has bar = ⊥
NotShared shares.NoMemory has bar = has true × (bar ≡ None)

-- a bar needs a content, no bar, and no hold that blocks
abbrev pub IsFree : (Bool → Type 0) → Option ℕ → List Hold → Type 0
IsFree has bar blocking = has true × (bar ≡ None) × (until blocking ≡ None)

abbrev pub NotBarred : BarRefused → (Bool → Type 0) → Option ℕ → List Hold → Type 0
NotBarred bars.StoreFault has bar blocking = Unit {0}
NotBarred bars.Absent has bar blocking = has false
NotBarred (bars.Barred job) has bar blocking = has true × (bar ≡ Some job)
NotBarred (bars.Held hold end) has bar blocking =
    has true × (bar ≡ None) × Names hold end blocking
NotBarred bars.NoMemory has bar blocking = IsFree has bar blocking

-- a removal by an order needs the same
abbrev pub RemovesSo : Removed → (Bool → Type 0) → Option ℕ → Bool → Type 0
RemovesSo removed.Absent has bar held = has false
RemovesSo removed.Gone has bar held = has true × (bar ≡ None) × (held ≡ false)

abbrev pub NotRemoved : RemoveRefused → (Bool → Type 0) → Option ℕ → Bool → List Hold → Type 0
NotRemoved (removes.StoreFault calls.Has) has bar held blocking = Unit {0}
NotRemoved (removes.StoreFault calls.Remove) has bar held blocking = RemovesSo removed.Gone has bar held
NotRemoved (removes.StoreFault call) has bar held blocking = ⊥
NotRemoved (removes.Barred job) has bar held blocking = has true × (bar ≡ Some job)
NotRemoved (removes.Held hold end) has bar held blocking = has true × (bar ≡ None) × (held ≡ true) × Names hold end blocking

-- a call of the store failed
abbrev pub IsShareFault : ShareRefused → Type 0
IsShareFault (shares.StoreFault call) = Unit {0}
IsShareFault e = ⊥

abbrev pub IsRemoveFault : RemoveRefused → Type 0
IsRemoveFault (removes.StoreFault call) = Unit {0}
IsRemoveFault e = ⊥

-- the store failed to keep the record, or there is no memory
abbrev pub IsOfHold : ShareRefused → Type 0
IsOfHold (shares.StoreFault calls.Hold) = Unit {0}
IsOfHold shares.NoMemory = Unit {0}
IsOfHold e = ⊥

-- what a fault of the store refuses
abbrev pub hold_fault : KeeperFault → ShareRefused
hold_fault faults.Failed = shares.StoreFault calls.Hold
hold_fault faults.NoMemory = shares.NoMemory
