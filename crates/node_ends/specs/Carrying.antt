-- Frames that are carried at some of the ends; for private contracts.
use Rattle.std.specs.Prelude.{◌≡◌, ◌≢◌, ◌<◌, ◌≤◌, ℕ, Bool, not, List, length}
use Rattle.link_ring.specs.Ends.{EndView}
use Rattle.node_model.specs.Ends.{EndName}
use Rattle.node_ends.specs.Ends.{link_at}
use Rattle.node_ends.specs.Joined.{end_with, link_carried}

-- frames were carried between the end of the first name and the other side's of the second
pub record IsCarried (x y : EndName) (was now other : List EndView) : Type 0 where
  pub count : length now ≡ length was
  pub here : link_at now x ≡ link_carried (link_at was x) (link_at other y)
  pub others : (z : EndName) → z ≢ x → link_at now z ≡ link_at was z

-- between both ends that a has at b in this slot, and those of b at a
pub record IsSlotCarried (a b slot : ℕ) (was now other : List EndView) : Type 0 where
  pub count : length now ≡ length was
  pub carried : (client : Bool) → link_at now (end_with b slot client) ≡ link_carried (link_at was (end_with b slot client)) (link_at other (end_with a slot (not client)))
  pub others : (z : EndName) → (z.peer ≡ b → z.slot ≢ slot) → link_at now z ≡ link_at was z

-- in each slot below this one
pub record AreCarriedTo (count_of a b : ℕ) (was now other : List EndView) : Type 0 where
  pub count : length now ≡ length was
  pub carried : (slot : ℕ) (client : Bool) → slot < count_of → link_at now (end_with b slot client) ≡ link_carried (link_at was (end_with b slot client)) (link_at other (end_with a slot (not client)))
  pub others : (z : EndName) → (z.peer ≡ b → count_of ≤ z.slot) → link_at now z ≡ link_at was z
