-- Which calls of a store fail (own).
use Rattle.std.specs.Prelude.{◌≡◌, ℕ, ◌+◌, ◌-◌, ◌==◌, Bool, true, false, nat_lt, if◌then◌else◌, Option, Result, Ok, Err}
use Rattle.std.specs.Option.{ForSome, option_map}
use Rattle.annex_base.specs.declared.kinds.Call.{Call}
use Rattle.annex_base.specs.Calls.{same_call}
use Rattle.object_store.specs.declared.keeper.KeeperFault.{KeeperFault}
use Rattle.object_store.specs.declared.keeper.KeeperFault.TheVariants as faults

-- how many calls of each kind are still to fail, with one more of a kind, or with one fewer
abbrev pub one_more : Call → (Call → ℕ) → Call → ℕ
one_more call failing c = if same_call call c then failing c + 1 else failing c

abbrev pub one_fewer : Call → (Call → ℕ) → Call → ℕ
one_fewer call failing c = if same_call call c then failing c - 1 else failing c

-- whether the answer is Failed
abbrev pub has_failed : {T : Type 0} → Result T KeeperFault → Bool
has_failed (Ok x) = false
has_failed (Err faults.Failed) = true
has_failed (Err faults.NoMemory) = false

-- where the store tells how many calls are still to fail, this one failed exactly where its kind's number wasn't 0, which is then one less; the other numbers stay
pub record FailsAsTold (call : Call) (before after : Option (Call → ℕ)) (failed : Bool) : Type 0 where
  pub told : ForSome before (λ failing. failed ≡ nat_lt 0 (failing call))
  pub count : after ≡ option_map (one_fewer call) before
