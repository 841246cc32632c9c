-- Whether bytes match a key, as the driver is given it (own).
use Rattle.std.specs.Prelude.{◌≡◌, ◌↔◌, ℕ, true, List}
use Rattle.key_verify.specs.Matching.{MatchesKey}
use Rattle.driver_model.specs.Driver.{DriverInput}

-- it is given what decides whether bytes are the content of a key
pub record DecidesMatches (g : DriverInput) : Type 0 where
  pub decides : (key bytes : List ℕ) → (g.matches key bytes ≡ true) ↔ MatchesKey key bytes
