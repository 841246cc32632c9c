-- The verdict on a part whose bytes have come (own).
use Rattle.std.specs.Prelude.{◌≡◌, ℕ, Bool, Option, IfSome, is_some}
use Rattle.object_store.specs.Stores.{Parts}
use Rattle.session_state.specs.declared.doing.Taken.{Taken}
use Rattle.session_state.specs.Phases.{IsRightSum}
use Rattle.session_state.specs.Talking.{SeesTaken}

-- its size, if its sum is its key's
pub record IsVerdict (t : Taken) (size : Option ℕ) : Type 0 where
  pub judged : IfSome size (λ n. IsRightSum t.sum t.fill)
  pub right : (known : Option Parts) (right : Bool) → SeesTaken known t right → right ≡ is_some size
  pub same : (known : Option Parts) (right : Bool) → SeesTaken known t right → IfSome size (λ n. n ≡ t.size)
