-- A crash finds the holds as they were before one of them was kept.
use Rattle.std.proofs.Common.{◌≡◌, ℕ, List, [], ◌∷◌, map, refl, ap}
use Rattle.run_data.specs.declared.row.Hold.{Hold}
use Rattle.node_model.specs.Rows.{restart}
use Rattle.content_lock.specs.Tokens.{keep_numbered}

pub restart_numbered : (clock number : ℕ) (hs : List Hold) → map (restart clock) (map (keep_numbered number) hs) ≡ map (restart clock) hs
restart_numbered clock number [] = refl
restart_numbered clock number (h ∷ hs) = ap (λ (l : List Hold). restart clock h ∷ l) (restart_numbered clock number hs)
