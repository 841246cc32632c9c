-- The numbers of repositories.
use Rattle.std.proofs.Common.{ℕ, zero, suc, ◌+◌, ◌<◌, ◌≤◌, arith}
use Rattle.std.specs.List.{range_with_len}
use Rattle.annex_base.specs.Lists.{Each}

pub below_len : (a n : ℕ) (m : ℕ) → a + n ≤ m → Each (λ r. r < m) (range_with_len a n)
below_len a zero m i = tt
below_len a (suc n) m i = (omega (arith, i), below_len (a + 1) n m (omega (arith, i)))
