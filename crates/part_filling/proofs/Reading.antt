-- A digester that takes a part as it is read.
use Rattle.std.proofs.Common.{◌≡◌, ℕ, ◌+◌, ◌≤◌, ◌++◌, List, length, take, ap, subst, ◌∙◌, arith}
use Rattle.object_store.specs.Stores.{read_length, room_after_read}
use Rattle.key_verify.specs.declared.digester.Digester.{Digester}
use Rattle.key_verify.specs.Sums.{HasTaken}
use Rattle.session_state.proofs.Transfers.{next_taken}

-- it has taken the part as far as it was read, and takes the front of the room
pub grown : (p room room' piece key : List ℕ) (at count : ℕ) (d d' : Digester) → at ≤ length p → count ≡ read_length p at (length room) → room' ≡ room_after_read p at room → piece ≡ take count room'
    → HasTaken d key (take at p) → ((k bytes : List ℕ) → HasTaken d k bytes → HasTaken d' k (bytes ++ piece)) → (at + count ≤ length p) × HasTaken d' key (take (at + count) p)
grown p room room' piece key at count d d' far e is cut had update = (
  omega (arith, far, e),
  subst (λ (b : List ℕ). HasTaken d' key b) (ap (λ (x : List ℕ). take at p ++ x) cut ∙ next_taken p room room' at count e is) (update key (take at p) had),
)
