-- Which calls of its store each answer of a table took, and which of these failed (own).
use Rattle.std.specs.Prelude.{◌≡◌, ℕ, Bool, true, false, nat_lt, List, [], ◌∷◌, Option, Result, Ok, Err}
use Rattle.std.specs.Option.{ForSome, option_map}
use Rattle.annex_base.specs.declared.kinds.Call.{Call}
use Rattle.annex_base.specs.declared.kinds.Call.TheVariants as calls
use Rattle.object_store.specs.Calls.{one_fewer}
use Rattle.content_lock.specs.declared.refusals.BarRefused.{BarRefused}
use Rattle.content_lock.specs.declared.refusals.BarRefused.TheVariants as bars
use Rattle.content_lock.specs.declared.refusals.RecoverRefused.{RecoverRefused}
use Rattle.content_lock.specs.declared.refusals.RecoverRefused.TheVariants as recovers
use Rattle.content_lock.specs.declared.refusals.RemoveRefused.{RemoveRefused}
use Rattle.content_lock.specs.declared.refusals.RemoveRefused.TheVariants as removes
use Rattle.content_lock.specs.declared.refusals.Removed.{Removed}
use Rattle.content_lock.specs.declared.refusals.Removed.TheVariants as removed
use Rattle.content_lock.specs.declared.refusals.ShareRefused.{ShareRefused}
use Rattle.content_lock.specs.declared.refusals.ShareRefused.TheVariants as shares

-- a call of a store, and whether it failed
abbrev pub CallOutcome : Type 0
CallOutcome = Call × Bool

-- where the store tells how many calls are still to fail, each of these calls in turn failed exactly where its kind's number wasn't 0, which is then one less
abbrev pub FailInTurn : List CallOutcome → Option (Call → ℕ) → Option (Call → ℕ) → Type 0
FailInTurn [] before after = after ≡ before
FailInTurn ((call, failed) ∷ turns) before after =
    ForSome before (λ failing. failed ≡ nat_lt 0 (failing call)) × FailInTurn turns (option_map (one_fewer call) before) after

-- a record that found no memory is a call that didn't fail, and takes nothing from a number that is 0 then
abbrev pub hold_turns : {T : Type 0} → Result T ShareRefused → List CallOutcome
hold_turns (Ok share) = (calls.Hold, false) ∷ []
hold_turns (Err (shares.StoreFault calls.Hold)) = (calls.Hold, true) ∷ []
hold_turns (Err e) = []

-- a share takes a look, and then a record of the hold
abbrev pub share_turns : {T : Type 0} → Result T ShareRefused → List CallOutcome
share_turns (Err (shares.StoreFault calls.Has)) = (calls.Has, true) ∷ []
share_turns answer = (calls.Has, false) ∷ hold_turns answer

-- a removal by an order takes a look, and then the removal
abbrev pub removal_turns : Result Removed RemoveRefused → List CallOutcome
removal_turns (Ok removed.Absent) = (calls.Has, false) ∷ []
removal_turns (Ok removed.Gone) = (calls.Has, false) ∷ (calls.Remove, false) ∷ []
removal_turns (Err (removes.StoreFault calls.Has)) = (calls.Has, true) ∷ []
removal_turns (Err (removes.StoreFault calls.Remove)) = (calls.Has, false) ∷ (calls.Remove, true) ∷ []
removal_turns (Err e) = (calls.Has, false) ∷ []

-- whether the answer is that the store failed
abbrev pub bar_failed : {T : Type 0} → Result T BarRefused → Bool
bar_failed (Err bars.StoreFault) = true
bar_failed answer = false

abbrev pub recover_failed : {T : Type 0} → Result T RecoverRefused → Bool
recover_failed (Err recovers.StoreFault) = true
recover_failed answer = false
