-- How long a history may be (own).
use Rattle.std.specs.Prelude.{ℕ}

-- how many entries a repository makes at most
abbrev pub most_entries : ℕ
most_entries = 100000
