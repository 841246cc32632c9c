-- What a reader of one thing answers; for private contracts.
use Rattle.std.specs.Prelude.{Option, Some, None}

-- a value that is seen so, or there is none
abbrev pub Found : {X Y : Type 0} → (X → Y) → (Y → Type 0) → Option X → Type 0
Found view P (Some x) = P (view x)
Found {Y = Y} view P None = (y : Y) → P y → ⊥
