-- Until when holds block a key; for private contracts (own).
use Rattle.std.specs.Prelude.{ℕ, Bool, if◌then◌else◌, Option, Some, None}

-- by whether one is open, and by the latest end
abbrev pub until_by : Bool → Option ℕ → Option (Option ℕ)
until_by endless None = None
until_by endless (Some end) = Some (if endless then None else Some end)
