-- Calls of a store in turn.
use Rattle.std.proofs.Common.{◌≡◌, ℕ, ◌-◌, Bool, true, false, List, [], ◌∷◌, Option, Some, None, refl, sym, ◌∙◌, subst, arith}
use Rattle.std.specs.Prelude.{nat_lt, Result, Ok, Err, IfErr}
use Rattle.annex_base.specs.declared.kinds.Call.{Call}
use Rattle.annex_base.specs.declared.kinds.Call.TheVariants as calls
use Rattle.object_store.specs.Calls.{FailsAsTold, has_failed, one_fewer}
use Rattle.object_store.specs.declared.keeper.KeeperFault.{KeeperFault}
use Rattle.object_store.specs.declared.keeper.KeeperFault.TheVariants as faults
use Rattle.content_lock.specs.Looks.{IsOfHold, hold_fault}
use Rattle.content_lock.specs.Turns.{FailInTurn, CallOutcome, hold_turns, share_turns}
use Rattle.content_lock.specs.declared.refusals.ShareRefused.{ShareRefused}
use Rattle.content_lock.specs.declared.refusals.ShareRefused.TheVariants as shares

-- one call, and what comes after it
pub turn_first : (call : Call) (failed : Bool) (turns : List CallOutcome) (was then after : Option (Call → ℕ)) → FailsAsTold call was then failed → FailInTurn turns then after → FailInTurn ((call, failed) ∷ turns) was after
turn_first call failed turns was then after first rest =
    (first.told, subst (λ (b : Option (Call → ℕ)). FailInTurn turns b after) first.count rest)

pub turn_alone : (call : Call) (failed : Bool) (was after : Option (Call → ℕ)) → FailsAsTold call was after failed → FailInTurn ((call, failed) ∷ []) was after
turn_alone call failed was after only = (only.told, only.count)

-- a record that didn't fail, where none was to fail, leaves the numbers
stays : (failing : Call → ℕ) → false ≡ nat_lt 0 (failing calls.Hold) → (call : Call) → one_fewer calls.Hold failing call ≡ failing call
stays failing none calls.Has = refl
stays failing none calls.Size = refl
stays failing none calls.Read = refl
stays failing none calls.PartSize = refl
stays failing none calls.ReadPart = refl
stays failing none calls.Append = refl
stays failing none calls.Commit = refl
stays failing none calls.DropPart = refl
stays failing none calls.Remove = refl
stays failing none calls.Hold = fewer (failing calls.Hold) none
  where
    fewer : (n : ℕ) → false ≡ nat_lt 0 n → n - 1 ≡ n
    fewer n e = grind arith
stays failing none calls.Unhold = refl
stays failing none calls.Holds = refl
stays failing none calls.PutFile = refl
stays failing none calls.File = refl

pub unfailed : (was after : Option (Call → ℕ)) → FailsAsTold calls.Hold was after false → after ≡ was
unfailed None after only = only.count
unfailed (Some failing) after only = only.count ∙ (λ i. Some (λ call. stays failing (only.told failing refl) call i))

-- what a fault refuses
pub hold_refused : (fault : KeeperFault) (was after : Option (Call → ℕ)) → FailsAsTold calls.Hold was after (has_failed {T = Unit {0}} (Err fault)) → FailInTurn (hold_turns {T = Unit {0}} (Err (hold_fault fault))) was after
hold_refused faults.Failed was after only = turn_alone calls.Hold true was after only
hold_refused faults.NoMemory was after only = unfailed was after only

-- a look, and then the record of the hold
pub look_first : {T : Type 0} (answer : Result T ShareRefused) (was then after : Option (Call → ℕ)) → IfErr answer IsOfHold → FailsAsTold calls.Has was then false → FailInTurn (hold_turns answer) then after → FailInTurn (share_turns answer) was after
look_first answer was then after why first rest =
    subst (λ (turns : List CallOutcome). FailInTurn turns was after) (sym (share_turns_are answer why)) (turn_first calls.Has false (hold_turns answer) was then after first rest)
  where
    share_turns_are : {T : Type 0} (answer : Result T ShareRefused) → IfErr answer IsOfHold → share_turns answer ≡ (calls.Has, false) ∷ hold_turns answer
    share_turns_are (Ok x) why = refl
    share_turns_are (Err shares.Absent) why = refl
    share_turns_are (Err (shares.Barred job)) why = refl
    share_turns_are (Err (shares.StoreFault calls.Has)) why = absurd why
    share_turns_are (Err (shares.StoreFault calls.Size)) why = refl
    share_turns_are (Err (shares.StoreFault calls.Read)) why = refl
    share_turns_are (Err (shares.StoreFault calls.PartSize)) why = refl
    share_turns_are (Err (shares.StoreFault calls.ReadPart)) why = refl
    share_turns_are (Err (shares.StoreFault calls.Append)) why = refl
    share_turns_are (Err (shares.StoreFault calls.Commit)) why = refl
    share_turns_are (Err (shares.StoreFault calls.DropPart)) why = refl
    share_turns_are (Err (shares.StoreFault calls.Remove)) why = refl
    share_turns_are (Err (shares.StoreFault calls.Hold)) why = refl
    share_turns_are (Err (shares.StoreFault calls.Unhold)) why = refl
    share_turns_are (Err (shares.StoreFault calls.Holds)) why = refl
    share_turns_are (Err (shares.StoreFault calls.PutFile)) why = refl
    share_turns_are (Err (shares.StoreFault calls.File)) why = refl
    share_turns_are (Err shares.NoMemory) why = refl
