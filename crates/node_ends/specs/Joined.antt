-- Two repositories' ends of the connections between them (own).
use Rattle.std.specs.Prelude.{◌≡◌, ◌≢◌, ℕ, ◌<◌, Bool, not, List, length, Option, Some, None}
use Rattle.link_ring.specs.Ends.{EndView, ArePaired, StaysPaired, after_carry}
use Rattle.node_model.specs.Ends.{EndName}
use Rattle.node_ends.specs.Ends.{link_at}

-- the end at this peer
abbrev pub end_with : ℕ → ℕ → Bool → EndName
end_with peer slot client = record { peer = peer; slot = slot; client = client }

abbrev pub BothPaired : Option EndView → Option EndView → Type 0
BothPaired None other = ⊥
BothPaired (Some a) None = ⊥
BothPaired (Some a) (Some b) = ArePaired a b

-- the repositories of these two numbers: each has its eight ends at the other, and the ends of each connection are paired
abbrev pub AreJoined : ℕ → ℕ → List EndView → List EndView → Type 0
AreJoined a b ends_a ends_b = (slot : ℕ) (client : Bool) → slot < 4 → BothPaired (link_at ends_a (end_with b slot client)) (link_at ends_b (end_with a slot (not client)))

abbrev pub StaysSo : Option EndView → Option EndView → Type 0
StaysSo None None = Unit {0}
StaysSo None (Some now) = ⊥
StaysSo (Some was) None = ⊥
StaysSo (Some was) (Some now) = StaysPaired was now

-- what is paired with an end is paired with it afterwards
abbrev pub StayPaired : List EndView → List EndView → Type 0
StayPaired was now = (a : EndName) → StaysSo (link_at was a) (link_at now a)

abbrev pub link_carried : Option EndView → Option EndView → Option EndView
link_carried None other = None
link_carried (Some a) None = None
link_carried (Some a) (Some b) = Some (after_carry a b)

-- the ends of a after frames were carried between those at b and those that b has at a
pub record AreCarried (a b : ℕ) (was now other : List EndView) : Type 0 where
  pub count : length now ≡ length was
  pub carried : (slot : ℕ) (client : Bool) → slot < 4 → link_at now (end_with b slot client) ≡ link_carried (link_at was (end_with b slot client)) (link_at other (end_with a slot (not client)))
  pub others : (x : EndName) → x.peer ≢ b → link_at now x ≡ link_at was x
