-- Each end of a job counts in one of a sync's four numbers.
use Rattle.std.proofs.Common.{◌≡◌, ℕ, suc, ◌+◌, List, [], ◌∷◌, refl, arith}
use Rattle.std.specs.Prelude.{filter, length}
use Rattle.run_data.specs.declared.job.Outcome.{Outcome}
use Rattle.run_data.specs.declared.job.Outcome.TheVariants.{Dropped, DroppedAbsent, Got, Copied, Refused, TransferRefused}
use Rattle.run_model.specs.Syncs.{is_drop, is_get, is_put, is_refused}

-- one more counts in one of four numbers
module _ (a b c d n : ℕ) (e : a + b + c + d ≡ n) where
  one_get : suc a + b + c + d ≡ suc n
  one_get = omega (arith, e)

  one_put : a + suc b + c + d ≡ suc n
  one_put = omega (arith, e)

  one_drop : a + b + suc c + d ≡ suc n
  one_drop = omega (arith, e)

  one_refused : a + b + c + suc d ≡ suc n
  one_refused = omega (arith, e)

abbrev AllCount : List Outcome → Type 0
AllCount os = length (filter is_get os) + length (filter is_put os) + length (filter is_drop os) + length (filter is_refused os) ≡ length os

pub all_count : (os : List Outcome) → AllCount os
all_count [] = refl
all_count (Got source start ∷ os) = one_get (length (filter is_get os)) (length (filter is_put os)) (length (filter is_drop os)) (length (filter is_refused os)) (length os) (all_count os)
all_count (Copied start ∷ os) = one_put (length (filter is_get os)) (length (filter is_put os)) (length (filter is_drop os)) (length (filter is_refused os)) (length os) (all_count os)
all_count (Dropped proof ∷ os) = one_drop (length (filter is_get os)) (length (filter is_put os)) (length (filter is_drop os)) (length (filter is_refused os)) (length os) (all_count os)
all_count (DroppedAbsent proof ∷ os) = one_drop (length (filter is_get os)) (length (filter is_put os)) (length (filter is_drop os)) (length (filter is_refused os)) (length os) (all_count os)
all_count (Refused refusal ∷ os) = one_refused (length (filter is_get os)) (length (filter is_put os)) (length (filter is_drop os)) (length (filter is_refused os)) (length os) (all_count os)
all_count (TransferRefused refusal ∷ os) = one_refused (length (filter is_get os)) (length (filter is_put os)) (length (filter is_drop os)) (length (filter is_refused os)) (length os) (all_count os)
