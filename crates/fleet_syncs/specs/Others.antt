-- Repositories but one, among some numbers, for private contracts.
use Rattle.std.specs.Prelude.{ℕ, not, ◌==◌, List, filter}

-- the numbers without that of the repository
abbrev pub others_among : ℕ → List ℕ → List ℕ
others_among repo numbers = filter (λ n. not (n == repo)) numbers
