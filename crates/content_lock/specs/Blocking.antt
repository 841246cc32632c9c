-- Which hold is named of those that block (own).
use Rattle.std.specs.Prelude.{◌≡◌, ◌≤◌, ℕ, not, ◌==◌, List, filter, map, Option, Some, None, Contains, All}
use Rattle.node_model.specs.DropStep.{until}
use Rattle.run_data.specs.declared.row.Hold.{Hold}

-- of the holds that block, those that do so longest: the open ones, or else those of the latest end
abbrev pub last_blocking : Option ℕ → List Hold → List Hold
last_blocking None blocking = filter (λ h. not h.kept) blocking
last_blocking (Some end) blocking = filter (λ h. h.end == end) blocking

-- the least of the numbers
pub record IsLeast (number : ℕ) (numbers : List ℕ) : Type 0 where
  pub among : Contains numbers number
  pub least : All (λ other. number ≤ other) numbers

-- holds block until then, and of those that do so longest this one has the least number
pub record Names (hold : ℕ) (end : Option ℕ) (blocking : List Hold) : Type 0 where
  pub longest : until blocking ≡ Some end
  pub least : IsLeast hold (map (λ h. h.number) (last_blocking end blocking))
