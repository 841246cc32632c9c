-- Which calls of its store a step made, and which of these failed (own).
use Rattle.std.specs.Prelude.{◌≡◌, ℕ, nat_lt, List, find, Option, Some, None}
use Rattle.std.specs.Option.{ForSome, option_map}
use Rattle.annex_base.specs.declared.kinds.Call.{Call}
use Rattle.object_store.specs.Calls.{one_fewer}

-- one call fewer is to fail, if one failed
abbrev pub fewer : Option Call → (Call → ℕ) → Call → ℕ
fewer None failing = failing
fewer (Some call) failing = one_fewer call failing

-- of these calls, made one after the other, the first that is to fail has failed, and none behind it was made
pub record MakesCalls (calls : List Call) (failed : Option Call) (before after : Option (Call → ℕ)) : Type 0 where
  pub first : ForSome before (λ failing. failed ≡ find (λ call. nat_lt 0 (failing call)) calls)
  pub left : after ≡ option_map (fewer failed) before
