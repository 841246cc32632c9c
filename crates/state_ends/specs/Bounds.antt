-- How large the numbers of an end are (own).
use Rattle.std.specs.Prelude.{ℕ, ◌<◌}
use Rattle.node_model.specs.Ends.{End}

-- the numbers of the end are below this one
pub record IsBelow (limit : ℕ) (c : End) : Type 0 where
  pub epoch : c.epoch < limit
  pub sent : c.sent < limit
