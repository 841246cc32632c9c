-- What each end keeps: room for its frames, and a place for the Close of an open end; for private contracts.
use Rattle.std.specs.Prelude.{◌≡◌, ◌≤◌, ℕ}
use Rattle.link_ring.specs.declared.end.Phase.{Phase}
use Rattle.link_ring.specs.declared.end.Phase.TheVariants.{Open}

-- its frames have the room that was reserved, and an open end has a place for its Close
pub record IsEnd (phase : Phase) (count used room_at_hand room_on_way : ℕ) : Type 0 where
  pub at_hand : 8 ≤ room_at_hand
  pub on_way : 8 ≤ room_on_way
  pub sent : count ≤ used
  pub places : used ≤ 8
  pub for_close : phase ≡ Open → used ≤ 7
